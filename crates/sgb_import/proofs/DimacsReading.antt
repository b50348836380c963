-- The lines of a text of DIMACS, one after another.
use Rattle.std.proofs.Common.{◌≡◌, ◌==◌, ℕ, ◌+◌, ◌-◌, ◌<◌, ◌≤◌, ◌^◌, Bool, true, false, List, [], ◌∷◌, ◌++◌, length, map, take, drop, Some, None, Option, Result, Ok, Err, IfOk, OnOk, IfErr, is_some, not, ◌||◌, take-append-drop, ◌⊎◌, inl, inr, refl, sym, ap, ap₂, subst, ◌∙◌, arith}
use Rattle.std.specs.Option.{option_map, option_or, option_to_list}
use Rattle.std.specs.List.{filter_map, cons_option, list_any}
use Rattle.std.proofs.lemmas.List.Elements.{filter_map-append}
use Rattle.std.proofs.lemmas.List.{length_push, take_all, length-take-le, length-map, length-append}
use Rattle.sgb_graph.specs.Builder.{Insertion}
use Rattle.sgb_import.specs.declared.dimacs.Reader.{Reader}
use Rattle.sgb_import.specs.declared.dimacs_line.Kind.{Kind}
use Rattle.sgb_import.specs.declared.dimacs_line.Kind.TheVariants.{Comment, TheProblem, AnArc, AnEdge, Other}
use Rattle.sgb_import.specs.declared.dimacs_line.Problem.{Problem}
use Rattle.sgb_import.specs.declared.refusal.ImportRefusal.{ImportRefusal}
use Rattle.sgb_import.specs.declared.refusal.ImportRefusal.TheVariants.{NoRoom}
use Rattle.sgb_import.specs.declared.refusal.TextFault.{TextFault}
use Rattle.sgb_import.specs.declared.refusal.TextFault.TheVariants.{NotAnArc, NotAnEdge, WrongEdges}
use Rattle.sgb_import.specs.Dimacs.{problem_of, problem_said, problem_of_kind, id_line, id_of, id_fault, last_fault, outline_with, refusal_of_dimacs, outline_of_dimacs, links_in, link_in, link_said, from_one, fault_said, fault_of_kind, fault_behind, line_fault, first_line_fault, link_fault, kind_of, arc_of_words, edge_of_words}
use Rattle.sgb_import.specs.Lines.{LineOf, has_words, lines, words}
use Rattle.sgb_import.specs.Private.Outlined.{insertion_of, outline_of}
use Rattle.sgb_import.specs.declared.outline.Outline.{Outline as Kept}
use Rattle.sgb_import.specs.Private.Dimacs.{cap, capped, IsFew, Read, fault_in, Takes, read_in, HasRead}
use Rattle.sgb_import.specs.Refusal.{at_line, fault_unless}
use Rattle.sgb_import.specs.Outline.{numbered}
use Rattle.std.proofs.lemmas.Bool.{cases_Bool, cases_lt, ne_eqb}
use Rattle.sgb_import.proofs.FirstFaults.{first_push, first_of, none_of}
use Rattle.sgb_import.proofs.LineTurns.{Turn, turn, all_taken, number_at}
use borrow.Author.Count.{below_more}

-- ---- one line more
pub problem_more : (before : List LineOf) (l : LineOf) → problem_of (before ++ l ∷ []) ≡ option_or (problem_of before) (problem_said l.number (words l.bytes))
unfolding problem_of
problem_more before l = first_push (λ m. problem_said m.number (words m.bytes)) before l

one_more : {A : Type 0} (o : Option A) → cons_option o [] ≡ option_to_list o
one_more None = refl
one_more (Some x) = refl

pub links_more : (before : List LineOf) (l : LineOf) → links_in (before ++ l ∷ []) ≡ links_in before ++ option_to_list (link_in l)
unfolding links_in
links_more before l = filter_map-append link_in before (l ∷ []) ∙ ap (λ es. filter_map link_in before ++ es) (one_more (link_in l))

-- ---- a problem with few vertices is kept as it is, but for the number of arcs or edges
link_same : (p : Problem) (k m : ℕ) (d : Bool) (ill : TextFault) (e : Option Insertion) → link_fault (Some (record p { links = k })) m d ill e ≡ link_fault (Some p) m d ill e
link_same p k m true ill None = refl
link_same p k m true ill (Some e) = refl
link_same p k m false ill None = refl
link_same p k m false ill (Some e) = refl

fault_same : (p : Problem) (k m line : ℕ) (kind : Kind) (ws : List (List ℕ)) → fault_of_kind (Some (record p { links = k })) m line kind ws ≡ fault_of_kind (Some p) m line kind ws
fault_same p k m line Comment ws = refl
fault_same p k m line TheProblem ws = refl
fault_same p k m line AnArc ws = link_same p k m true NotAnArc (arc_of_words ws)
fault_same p k m line AnEdge ws = link_same p k m false NotAnEdge (edge_of_words ws)
fault_same p k m line Other ws = refl

pub fault_exact : (o : Option Problem) (m line : ℕ) (ws : List (List ℕ)) → IsFew (option_map capped o) → fault_said (option_map capped o) m line ws ≡ fault_said o m line ws
fault_exact None m line ws few = refl
fault_exact (Some p) m line [] few = refl
fault_exact (Some p) m line (w ∷ ws) few =
    let small : cap p.vertices ≤ 65535 = few in
    let exact : cap p.vertices ≡ p.vertices = omega arith in
    ap (λ n. fault_of_kind (Some (record p { vertices = n; links = cap p.links })) m line (kind_of w) ws) exact
    ∙ fault_same p (cap p.links) m line (kind_of w) ws

-- ---- there is one problem
no_second : (p : Problem) (m line : ℕ) (kind : Kind) (ws : List (List ℕ)) → fault_of_kind (Some p) m line kind ws ≡ None → problem_of_kind line kind ws ≡ None
no_second p m line Comment ws none = refl
no_second p m line TheProblem ws none = cc
no_second p m line AnArc ws none = refl
no_second p m line AnEdge ws none = refl
no_second p m line Other ws none = refl

none_said : (p : Problem) (m line : ℕ) (ws : List (List ℕ)) → fault_said (Some p) m line ws ≡ None → problem_said line ws ≡ None
none_said p m line [] none = refl
none_said p m line (w ∷ ws) none = no_second p m line (kind_of w) ws none

or_none : {A : Type 0} (o : Option A) → option_or o None ≡ o
or_none None = refl
or_none (Some x) = refl

one_problem : (o : Option Problem) (m line : ℕ) (ws : List (List ℕ)) → fault_said o m line ws ≡ None
    → option_or (option_map capped (problem_said line ws)) (option_map capped o) ≡ option_map capped (option_or o (problem_said line ws))
one_problem None m line ws none = or_none (option_map capped (problem_said line ws))
one_problem (Some p) m line ws none = ap (λ (s : Option Problem). option_or (option_map capped s) (Some (capped p))) (none_said p m line ws none)

-- ---- what the reader keeps
few_read : (before : List LineOf) (r : Reader) → HasRead before r → IsFew (option_map capped (problem_of before))
few_read before r h = subst IsFew (ap (λ (q : Read). q.problem) h.0) h.1

pub same_fault : (before : List LineOf) (r : Reader) (l : LineOf) → HasRead before r → fault_in (read_in r) l ≡ fault_behind before l
unfolding fault_behind
same_fault before r l h =
    ap (λ q. fault_in q l) h.0
    ∙ fault_exact (problem_of before) (length (links_in before)) l.number (words l.bytes) (few_read before r h)

pub read_more : (before : List LineOf) (l : LineOf) (old new : Reader) (u : Unit {0}) → HasRead before old → Takes (read_in old) l (Ok u) (read_in new) → IsFew new.problem → new.last ≡ length before + 1
    → HasRead (before ++ l ∷ []) new
read_more before l old new u h takes few last =
    let none : fault_said (problem_of before) (length (links_in before)) l.number (words l.bytes) ≡ None =
    sym (fault_exact (problem_of before) (length (links_in before)) l.number (words l.bytes) (few_read before old h)) ∙ sym (ap (λ q. fault_in q l) h.0) ∙ takes.0 in
    let problem : new.problem ≡ option_map capped (problem_of (before ++ l ∷ [])) =
    takes.1
    ∙ ap (λ (q : Read). option_or (option_map capped (problem_said l.number (words l.bytes))) q.problem) h.0
    ∙ one_problem (problem_of before) (length (links_in before)) l.number (words l.bytes) none
    ∙ sym (ap (option_map capped) (problem_more before l)) in
    let links : (read_in new).links ≡ links_in (before ++ l ∷ []) =
    takes.2 ∙ ap (λ (q : Read). q.links ++ option_to_list (link_in l)) h.0 ∙ sym (links_more before l) in
    (ap₂ (λ (p : Option Problem) (es : List Insertion). record { problem = p; links = es }) problem links, few, last ∙ sym (length_push before l))

pub none_read : (before : List LineOf) (l : LineOf) (old new : Reader) (u : Unit {0}) → HasRead before old → Takes (read_in old) l (Ok u) (read_in new) → fault_behind before l ≡ None
none_read before l old new u h takes = sym (same_fault before old l h) ∙ takes.0

pub refused : (before : List LineOf) (l : LineOf) (old new : Reader) (e : ImportRefusal) → HasRead before old → Takes (read_in old) l (Err e) (read_in new) → ((e ≡ NoRoom) × (is_some (link_in l) ≡ true)) ⊎ (at_line l.number (fault_behind before l) ≡ Some e)
refused before l old new e h (inl full) = inl full
refused before l old new e h (inr fault) = inr (ap (at_line l.number) (sym (same_fault before old l h)) ∙ fault)

-- ---- a text with an arc or edge
some_more : (es : List Insertion) (o : Option Insertion) → is_some o ≡ true → 0 < length (es ++ option_to_list o)
some_more es None some = absurd cc
some_more es (Some e) some = omega (arith, length_push es e)

links_split : (ls : List LineOf) (n : ℕ) → links_in ls ≡ links_in (take n ls) ++ links_in (drop n ls)
unfolding links_in
links_split ls n = sym (ap (filter_map link_in) (take-append-drop n ls)) ∙ filter_map-append link_in (take n ls) (drop n ls)

some_links : (ls : List LineOf) (n : ℕ) (l : LineOf) (rest : List LineOf) → Turn ls n l rest → is_some (link_in l) ≡ true → 0 < length (links_in ls)
some_links ls n l rest t some =
    let front : 0 < length (links_in (take (n + 1) ls)) = rw (t.before, links_more (take n ls) l) (some_more (links_in (take n ls)) (link_in l) some) in
    omega (arith, ap length (links_split ls (n + 1)), length-append (links_in (take (n + 1) ls)) (links_in (drop (n + 1) ls)))

word_said : (l : LineOf) → is_some (link_in l) ≡ true → has_words l ≡ true
word_said l some = go (words l.bytes) some
  where
    go : (ws : List (List ℕ)) → is_some (option_map from_one (link_said ws)) ≡ true → not (length ws == 0) ≡ true
    go [] said = absurd cc
    go (w ∷ ws) said = ap not (ne_eqb (length (w ∷ ws)) 0 (λ e. absurd (omega arith)))

link_head : (l : LineOf) (ls : List LineOf) (o : Option Insertion) → link_in l ≡ o → links_in (l ∷ ls) ≡ cons_option o (links_in ls)
unfolding links_in
link_head l ls o is = ap (λ x. cons_option x (filter_map link_in ls)) is

-- it has a line with words
pub words_linked : (ls : List LineOf) → 0 < length (links_in ls) → list_any has_words ls ≡ true
unfolding links_in
words_linked [] some = absurd (omega arith)
words_linked (l ∷ ls) some = elim (cases_Bool (is_some (link_in l))) [
  | inl here ↦ ap (λ b. b || list_any has_words ls) (word_said l here)
  | inr none ↦ (let later : 0 < length (links_in ls) = subst (λ es. 0 < length es) (link_head l ls None (nothing (link_in l) none)) some in
      ap (λ b. has_words l || b) (words_linked ls later) ∙ or_true (has_words l))
]
  where
    nothing : (o : Option Insertion) → is_some o ≡ false → o ≡ None
    nothing None is = refl
    nothing (Some e) is = absurd cc

    or_true : (b : Bool) → (b || true) ≡ true
    or_true true = refl
    or_true false = refl

-- ---- a turn of the loop over the lines
sound_more : (ls : List LineOf) (n : ℕ) → ((i : ℕ) → i < n → line_fault ls i ≡ None) → line_fault ls n ≡ None → (i : ℕ) → i < n + 1 → line_fault ls i ≡ None
sound_more ls n below here = below_more (λ i. line_fault ls i ≡ None) n below here

fault_at : (ls : List LineOf) (n : ℕ) (l : LineOf) (rest : List LineOf) → Turn ls n l rest → line_fault ls n ≡ at_line l.number (fault_behind (take n ls) l)
fault_at ls n l rest t = ap (λ (m : LineOf). at_line m.number (fault_behind (take n ls) m)) (t.here (record { number = 0; bytes = [] }))

-- what holds behind n lines
pub record Behind (ls : List LineOf) (n : ℕ) (rest : List LineOf) (r : Reader) : Type 0 where
  pub left : drop n ls ≡ rest
  pub read : HasRead (take n ls) r
  pub sound : (i : ℕ) → i < n → line_fault ls i ≡ None

pub step_on : (text : List ℕ) (n : ℕ) (rest left : List LineOf) (l : LineOf) (old new : Reader) (u : Unit {0}) → Behind (lines text) n rest old → rest ≡ l ∷ left
    → Takes (read_in old) l (Ok u) (read_in new) → IsFew new.problem → new.last ≡ l.number → Behind (lines text) (n + 1) left new
step_on text n rest left l old new u b is takes few last =
    let ls = lines text in
    let t = turn ls n l left (b.left ∙ is) in
    let short : length (take n ls) ≡ n = length-take-le n ls (omega (arith, t.within)) in
    let number : l.number ≡ n + 1 = sym (ap (λ (m : LineOf). m.number) (t.here l)) ∙ number_at text n l t.within in
    record {
      left = t.left;
      read = rw t.before (read_more (take n ls) l old new u b.read takes few (last ∙ number ∙ ap (λ k. k + 1) (sym short)));
      sound = sound_more ls n b.sound (fault_at ls n l left t ∙ ap (at_line l.number) (none_read (take n ls) l old new u b.read takes));
    }

pub stop_at : (text : List ℕ) (n : ℕ) (rest left : List LineOf) (l : LineOf) (old new : Reader) (e : ImportRefusal) → Behind (lines text) n rest old → rest ≡ l ∷ left
    → Takes (read_in old) l (Err e) (read_in new) → ((e ≡ NoRoom) × (0 < length (links_in (lines text)))) ⊎ (first_line_fault (lines text) ≡ Some e)
stop_at text n rest left l old new e b is takes =
    let ls = lines text in
    let t = turn ls n l left (b.left ∙ is) in
    elim (refused (take n ls) l old new e b.read takes) [
      | inl full ↦ inl (full.0, some_links ls n l left t full.1)
      | inr fault ↦ inr (first_of (line_fault ls) (length ls) n e t.within b.sound (fault_at ls n l left t ∙ fault))
    ]

pub all_read : (text : List ℕ) (n : ℕ) (rest : List LineOf) (r : Reader) → Behind (lines text) n rest r → rest ≡ [] → (first_line_fault (lines text) ≡ None) × HasRead (lines text) r
all_read text n rest r b is =
    let ls = lines text in
    let past : length ls ≤ n = all_taken ls n (b.left ∙ is) in
    (none_of (line_fault ls) (length ls) (λ i h. b.sound i (omega arith)), rw (take_all n ls past) at b.read)

pub nothing_read : (text : List ℕ) (rest : List LineOf) (r : Reader) → lines text ≡ rest → r.problem ≡ None → r.links.items ≡ [] → r.last ≡ 0 → Behind (lines text) 0 rest r
unfolding problem_of links_in
nothing_read text rest r left problem links last = record {
  left = left;
  read = (ap₂ (λ (p : Option Problem) (es : List Insertion). record { problem = p; links = es }) problem (ap (map insertion_of) links), subst IsFew (sym problem) tt, last);
  sound = λ i h. absurd (omega arith);
}

-- ---- the end
same_count : (m k : ℕ) → m < 2 ^ 64 - 1 → (m == cap k) ≡ (m == k)
same_count m k low = elim (cases_lt (2 ^ 64 - 1) k) [
  | inl high ↦ ne_eqb m (cap k) (λ e. absurd (omega arith)) ∙ sym (ne_eqb m k (λ e. absurd (omega arith)))
  | inr fits ↦ (let e : cap k ≡ k = omega arith in ap (λ n. m == n) e)
]

last_same : (last : ℕ) (o : Option Problem) (m : ℕ) → m < 2 ^ 64 - 1 → last_fault last (option_map capped o) m ≡ last_fault last o m
last_same last None m low = refl
last_same last (Some p) m low = ap (λ b. at_line p.line (fault_unless b WrongEdges None)) (same_count m p.links low)

outline_same : (id : List ℕ) (o : Option Problem) (es : List Insertion) → IsFew (option_map capped o) → outline_with id (option_map capped o) es ≡ outline_with id o es
outline_same id None es few = refl
outline_same id (Some p) es few =
    let small : cap p.vertices ≤ 65535 = few in
    let exact : cap p.vertices ≡ p.vertices = omega arith in
    ap (λ n. record { id = id; names = numbered 1 n; directed = p.directed; links = es }) exact

-- the last fault, and the outline, by what was read
pub last_read : (ls : List LineOf) (r : Reader) → HasRead ls r → length r.links.items < 2 ^ 64 - 1
    → last_fault r.last r.problem (length r.links.items) ≡ last_fault (length ls) (problem_of ls) (length (links_in ls))
last_read ls r h low =
    ap (λ n. last_fault n r.problem (length r.links.items)) h.2
    ∙ ap (λ (q : Read). last_fault (length ls) q.problem (length r.links.items)) h.0
    ∙ last_same (length ls) (problem_of ls) (length r.links.items) low
    ∙ ap (last_fault (length ls) (problem_of ls)) (sym (length-map r.links.items insertion_of) ∙ ap (λ (q : Read). length q.links) h.0)

pub outline_read : (ls : List LineOf) (r : Reader) (id : List ℕ) → HasRead ls r → outline_with id r.problem (map insertion_of r.links.items) ≡ outline_with id (problem_of ls) (links_in ls)
outline_read ls r id h =
    ap (λ (q : Read). outline_with id q.problem q.links) h.0 ∙ outline_same id (problem_of ls) (links_in ls) (few_read ls r h)

pub no_refusal : (text : List ℕ) → id_fault (id_line (lines text)) ≡ None → first_line_fault (lines text) ≡ None → last_fault (length (lines text)) (problem_of (lines text)) (length (links_in (lines text))) ≡ None → refusal_of_dimacs text ≡ None
unfolding refusal_of_dimacs
no_refusal text id line last =
    let ls = lines text in
    ap (λ o. option_or o (option_or (first_line_fault ls) (last_fault (length ls) (problem_of ls) (length (links_in ls))))) id
    ∙ ap (λ o. option_or o (last_fault (length ls) (problem_of ls) (length (links_in ls)))) line
    ∙ last

pub id_refusal : (text : List ℕ) (e : ImportRefusal) → id_fault (id_line (lines text)) ≡ Some e → refusal_of_dimacs text ≡ Some e
unfolding refusal_of_dimacs
id_refusal text e id = let ls = lines text in ap (λ o. option_or o (option_or (first_line_fault ls) (last_fault (length ls) (problem_of ls) (length (links_in ls))))) id

pub line_refusal : (text : List ℕ) (e : ImportRefusal) → id_fault (id_line (lines text)) ≡ None → ((e ≡ NoRoom) × (0 < length (links_in (lines text)))) ⊎ (first_line_fault (lines text) ≡ Some e) → ((e ≡ NoRoom) × (0 < length (links_in (lines text)))) ⊎ (refusal_of_dimacs text ≡ Some e)
unfolding refusal_of_dimacs
line_refusal text e id (inl full) = inl full
line_refusal text e id (inr line) =
    let ls = lines text in
    inr (ap (λ o. option_or o (option_or (first_line_fault ls) (last_fault (length ls) (problem_of ls) (length (links_in ls))))) id
    ∙ ap (λ o. option_or o (last_fault (length ls) (problem_of ls) (length (links_in ls)))) line)

pub last_refusal : (text : List ℕ) (e : ImportRefusal) → id_fault (id_line (lines text)) ≡ None → first_line_fault (lines text) ≡ None → last_fault (length (lines text)) (problem_of (lines text)) (length (links_in (lines text))) ≡ Some e → refusal_of_dimacs text ≡ Some e
unfolding refusal_of_dimacs
last_refusal text e id line last =
    let ls = lines text in
    ap (λ o. option_or o (option_or (first_line_fault ls) (last_fault (length ls) (problem_of ls) (length (links_in ls))))) id
    ∙ ap (λ o. option_or o (last_fault (length ls) (problem_of ls) (length (links_in ls)))) line
    ∙ last

pub finished : (text : List ℕ) (r : Reader) (id : List ℕ) (low : length r.links.items < 2 ^ 64 - 1) → (id_fault (id_line (lines text)) ≡ None) × (id ≡ id_of (id_line (lines text))) → (first_line_fault (lines text) ≡ None) × HasRead (lines text) r
    → last_fault r.last r.problem (length r.links.items) ≡ None → (refusal_of_dimacs text ≡ None) × (outline_with id r.problem (map insertion_of r.links.items) ≡ outline_of_dimacs text)
unfolding outline_of_dimacs
finished text r id low said read last =
    let ls = lines text in (
      no_refusal text said.0 read.0 (sym (last_read ls r read.1 low) ∙ last),
      outline_read ls r id read.1 ∙ ap (λ i. outline_with i (problem_of ls) (links_in ls)) said.1,
    )

pub unfinished : (text : List ℕ) (r : Reader) (e : ImportRefusal) (low : length r.links.items < 2 ^ 64 - 1) → id_fault (id_line (lines text)) ≡ None → (first_line_fault (lines text) ≡ None) × HasRead (lines text) r
    → last_fault r.last r.problem (length r.links.items) ≡ Some e → refusal_of_dimacs text ≡ Some e
unfinished text r e low id read last = last_refusal text e id read.0 (sym (last_read (lines text) r read.1 low) ∙ last)

-- what holds of a text that was read
pub record Spelled (text : List ℕ) (result : Result Kept ImportRefusal) : Type 0 where
  pub outline : IfOk result (λ o. outline_of o ≡ outline_of_dimacs text)
  pub ok : OnOk result (refusal_of_dimacs text ≡ None)

pub all_finished : (text : List ℕ) (r : Reader) (id : List ℕ) (low : length r.links.items < 2 ^ 64 - 1) → (id_fault (id_line (lines text)) ≡ None) × (id ≡ id_of (id_line (lines text))) → (first_line_fault (lines text) ≡ None) × HasRead (lines text) r
    → (result : Result Kept ImportRefusal) → IfOk result (λ o. (last_fault r.last r.problem (length r.links.items) ≡ None) × (outline_of o ≡ outline_with id r.problem (map insertion_of r.links.items)))
    → Spelled text result
all_finished text r id low said read (Err e) is = record { outline = tt; ok = tt }
all_finished text r id low said read (Ok o) is = let f = finished text r id low said read is.0 in record { outline = is.1 ∙ f.1; ok = f.0 }

pub all_unfinished : (text : List ℕ) (r : Reader) (low : length r.links.items < 2 ^ 64 - 1) → id_fault (id_line (lines text)) ≡ None → (first_line_fault (lines text) ≡ None) × HasRead (lines text) r
    → (result : Result Kept ImportRefusal) → IfErr result (λ e. last_fault r.last r.problem (length r.links.items) ≡ Some e) → IfErr result (λ e. ((e ≡ NoRoom) × (0 < length (links_in (lines text)))) ⊎ (refusal_of_dimacs text ≡ Some e))
all_unfinished text r low id read (Ok o) is = tt
all_unfinished text r low id read (Err e) is = inr (unfinished text r e low id read is)
