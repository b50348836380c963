-- The outline of a text of DIMACS that is not refused is one of which a graph can be made.
use Rattle.std.proofs.Common.{◌≡◌, ◌==◌, ℕ, ℤ, zero, suc, ◌+◌, ◌<◌, ◌≤◌, ◌^◌, pos, neg_ℤ, Bool, true, false, ◌&&◌, cond, nat_le, nat_lt, List, [], ◌∷◌, ◌++◌, length, take, drop, get_or, Some, None, Option, Result, Ok, Err, IfOk, OnOk, MatchOption, All, lit≤, lit<, w64, FitsSigned, inl, inr, refl, sym, ap, subst, ◌∙◌, arith, append-nil}
use Rattle.std.specs.Fmt.{decimal}
use Rattle.std.specs.List.{list_all, range_with_len}
use Rattle.std.specs.Option.{option_map, option_or, option_to_list, option_and_then}
use Rattle.std.proofs.lemmas.Bool.{cases_Bool, and_parts, leb-true, ltb-true}
use Rattle.std.proofs.lemmas.List.{length-map, length_push, take_all, drop_more}
use Rattle.std.proofs.lemmas.List.Elements.{All-map, All-nil, All-push}
use Rattle.std.proofs.lemmas.List.FromFn.{length-range_with_len, get_or-range_with_len}
use Rattle.sgb_graph.specs.Builder.{Insertion}
use Rattle.sgb_graph.specs.Graph.{IsId}
use Rattle.sgb_graph.specs.Sound.{is_id, is_text}
use Rattle.sgb_graph.specs.Text.{IsText, is_text_byte}
use Rattle.sgb_plan.proofs.Shorts.{IsShort-decimal, text_from_short}
use Rattle.sgb_import.specs.declared.dimacs_line.Kind.{Kind}
use Rattle.sgb_import.specs.declared.dimacs_line.Kind.TheVariants.{Comment, TheProblem, AnArc, AnEdge, Other}
use Rattle.sgb_import.specs.declared.dimacs_line.Problem.{Problem}
use Rattle.sgb_import.specs.declared.refusal.ImportRefusal.{ImportRefusal}
use Rattle.sgb_import.specs.declared.refusal.TextFault.{TextFault}
use Rattle.sgb_import.specs.declared.refusal.TextFault.TheVariants.{NotAnArc, NotAnEdge, NoSuchVertex, TooManyArcs, NotALine, TooManyVertices, BadId}
use Rattle.sgb_import.specs.Dimacs.{problem_of, problem_said, problem_of_kind, problem_of_words, problem_fault, id_line, id_of, id_fault, last_fault, outline_with, refusal_of_dimacs, outline_of_dimacs, links_in, link_said, link_of_kind, link_with, from_one, fault_said, fault_of_kind, fault_behind, line_fault, first_line_fault, link_fault, ends_fault, is_vertex, kind_of, two, three, arc_of_words, edge_of_words}
use Rattle.sgb_import.specs.declared.outline.Outline.{Outline as Kept}
use Rattle.sgb_import.specs.Private.Outlined.{outline_of}
use Rattle.sgb_import.specs.Lines.{LineOf, lines, words}
use Rattle.sgb_import.specs.Numbers.{natural_of, length_of}
use Rattle.sgb_import.specs.Outline.{IsLink, IsOutline, numbered, arcs_of_links}
use Rattle.sgb_import.specs.Refusal.{at_line, fault_unless}
use Rattle.sgb_import.proofs.DimacsReading.{problem_more, links_more}
use Rattle.sgb_import.proofs.FirstFaults.{all_of_none}
use Rattle.sgb_import.proofs.LineTurns.{turn}

-- ---- lengths have 64 bits
fits_below : (n : ℕ) (z : ℤ) → cond (nat_lt n (2 ^ 63)) (Some (pos n)) None ≡ Some z → FitsSigned w64 z
fits_below n z is = elim (cases_Bool (nat_lt n (2 ^ 63))) [
  | inl low ↦ (let same : Some (pos n) ≡ Some z = rw low at is in let e : pos n ≡ z = cc in let small : n < 2 ^ 63 = ltb-true n (2 ^ 63) low in subst (FitsSigned w64) e (record { sfits = small }))
  | inr high ↦ absurd (let bad : None ≡ Some z = rw high at is in cc)
]

fits_negated : (n : ℕ) → n ≤ 2 ^ 63 → FitsSigned w64 (neg_ℤ (pos n))
fits_negated zero low = record { sfits = lit< tt }
fits_negated (suc n) low = let small : n < 2 ^ 63 = omega arith in record { sfits = small }

fits_minus : (n : ℕ) (z : ℤ) → cond (nat_le n (2 ^ 63)) (Some (neg_ℤ (pos n))) None ≡ Some z → FitsSigned w64 z
fits_minus n z is = elim (cases_Bool (nat_le n (2 ^ 63))) [
  | inl low ↦ (let same : Some (neg_ℤ (pos n)) ≡ Some z = rw low at is in let e : neg_ℤ (pos n) ≡ z = cc in subst (FitsSigned w64) e (fits_negated n (leb-true n (2 ^ 63) low)))
  | inr high ↦ absurd (let bad : None ≡ Some z = rw high at is in cc)
]

fits_of : (o : Option ℕ) (f : ℕ → Option ℤ) (z : ℤ) → ((n : ℕ) → f n ≡ Some z → FitsSigned w64 z) → option_and_then f o ≡ Some z → FitsSigned w64 z
fits_of None f z fits is = absurd cc
fits_of (Some n) f z fits is = fits n is

pub length_fits : (w : List ℕ) (z : ℤ) → length_of w ≡ Some z → FitsSigned w64 z
unfolding length_of
length_fits [] z is = absurd cc
length_fits (c ∷ cs) z is = elim (cases_Bool (c == 45)) [
  | inl minus ↦ fits_of (natural_of cs) (λ n. cond (nat_le n (2 ^ 63)) (Some (neg_ℤ (pos n))) None) z (λ n e. fits_minus n z e) (rw minus at is)
  | inr plain ↦ fits_of (natural_of (c ∷ cs)) (λ n. cond (nat_lt n (2 ^ 63)) (Some (pos n)) None) z (λ n e. fits_below n z e) (rw plain at is)
]

pub unit_fits : FitsSigned w64 (pos 1)
unit_fits = record { sfits = lit< tt }

with_len : (u v : Option ℕ) (w : Option ℤ) (e : Insertion) → link_with u v w ≡ Some e → w ≡ Some e.len
with_len None v w e is = absurd cc
with_len (Some u) None w e is = absurd cc
with_len (Some u) (Some v) None e is = absurd cc
with_len (Some u) (Some v) (Some z) e is = ap (option_map (λ (x : Insertion). x.len)) is

arc_fits : (ws : List (List ℕ)) (e : Insertion) → arc_of_words ws ≡ Some e → FitsSigned w64 e.len
unfolding arc_of_words
arc_fits ws e is = go (three ws) is
  where
    go : (t : Option (List ℕ × List ℕ × List ℕ)) → option_and_then (λ t. link_with (natural_of t.0) (natural_of t.1) (length_of t.2)) t ≡ Some e → FitsSigned w64 e.len
    go None bad = absurd cc
    go (Some t) said = length_fits t.2 e.len (with_len (natural_of t.0) (natural_of t.1) (length_of t.2) e said)

edge_fits : (ws : List (List ℕ)) (e : Insertion) → edge_of_words ws ≡ Some e → FitsSigned w64 e.len
unfolding edge_of_words
edge_fits ws e is = go (two ws) is
  where
    go : (t : Option (List ℕ × List ℕ)) → option_and_then (λ t. link_with (natural_of t.0) (natural_of t.1) (Some (pos 1))) t ≡ Some e → FitsSigned w64 e.len
    go None bad = absurd cc
    go (Some t) said = let same = with_len (natural_of t.0) (natural_of t.1) (Some (pos 1)) e said in subst (FitsSigned w64) (let q : pos 1 ≡ e.len = cc in q) unit_fits

-- ---- what lines without fault say
-- a problem and the arcs or edges behind it
abbrev Fits : Option Problem → List Insertion → Type 0
Fits o es = MatchOption o (es ≡ []) (λ p. (p.vertices ≤ 65535) × All (IsLink p.vertices) es × (arcs_of_links p.directed (length es) ≤ 1000000))

passes : (b : Bool) (fault : TextFault) (later : Option TextFault) → fault_unless b fault later ≡ None → (b ≡ true) × (later ≡ None)
passes true fault later is = (refl, is)
passes false fault later is = absurd cc

passes_not : (b : Bool) (later : Option TextFault) → cond b (Some NotALine) later ≡ None → later ≡ None
passes_not true later is = absurd cc
passes_not false later is = is

link_from_one : (n : ℕ) (e : Insertion) → (is_vertex n e.from && is_vertex n e.to) ≡ true → FitsSigned w64 e.len → IsLink n (from_one e)
link_from_one n e known fits =
    let both = and_parts (is_vertex n e.from) (is_vertex n e.to) known in
    let from = and_parts (nat_le 1 e.from) (nat_le e.from n) both.0 in
    let to = and_parts (nat_le 1 e.to) (nat_le e.to n) both.1 in
    let a = leb-true 1 e.from from.0 in
    let b = leb-true e.from n from.1 in
    let c = leb-true 1 e.to to.0 in
    let d = leb-true e.to n to.1 in
    record { from = omega arith; to = omega arith; len = fits }

one_fits : (p : Problem) (es : List Insertion) (ill : TextFault) (o : Option Insertion) → ((e : Insertion) → o ≡ Some e → FitsSigned w64 e.len) → Fits (Some p) es → ends_fault p (length es) ill o ≡ None
    → Fits (Some p) (es ++ option_to_list (option_map from_one o))
one_fits p es ill None len fits none = absurd cc
one_fits p es ill (Some e) len fits none =
    let known = passes (is_vertex p.vertices e.from && is_vertex p.vertices e.to) NoSuchVertex (fault_unless (nat_le (arcs_of_links p.directed (length es + 1)) 1000000) TooManyArcs None) none in
    let few = passes (nat_le (arcs_of_links p.directed (length es + 1)) 1000000) TooManyArcs None known.1 in (
      fits.0,
      All-push (IsLink p.vertices) es (from_one e) fits.1 (link_from_one p.vertices e known.0 (len e refl)),
      subst (λ m. arcs_of_links p.directed m ≤ 1000000) (sym (length_push es (from_one e))) (leb-true (arcs_of_links p.directed (length es + 1)) 1000000 few.0),
    )

link_fits : (o : Option Problem) (es : List Insertion) (d : Bool) (ill : TextFault) (e : Option Insertion) → ((x : Insertion) → e ≡ Some x → FitsSigned w64 x.len) → Fits o es → link_fault o (length es) d ill e ≡ None
    → Fits (option_or o None) (es ++ option_to_list (option_map from_one e))
link_fits None es d ill e len fits none = absurd cc
link_fits (Some p) es true ill e len fits none = one_fits p es ill e len fits (passes p.directed NotALine (ends_fault p (length es) ill e) none).1
link_fits (Some p) es false ill e len fits none = one_fits p es ill e len fits (passes_not p.directed (ends_fault p (length es) ill e) none)

nothing_more : (o : Option Problem) (es : List Insertion) → Fits o es → Fits (option_or o None) (es ++ [])
nothing_more None es fits = append-nil es ∙ fits
nothing_more (Some p) es fits = rw (append-nil es) fits

problem_fits : (o q : Option Problem) (es : List Insertion) → Fits o es → problem_fault o q ≡ None → Fits (option_or o q) (es ++ [])
problem_fits (Some p) q es fits none = absurd cc
problem_fits None None es fits none = absurd cc
problem_fits None (Some p) es fits none =
    let few = passes (nat_le p.vertices 65535) TooManyVertices None none in
    let empty : es ++ [] ≡ [] = append-nil es ∙ fits in
    rw empty (leb-true p.vertices 65535 few.0, All-nil (IsLink p.vertices), few_none p.directed)
  where
    few_none : (d : Bool) → arcs_of_links d 0 ≤ 1000000
    few_none true = lit≤ tt
    few_none false = lit≤ tt

kind_fits : (o : Option Problem) (es : List Insertion) (line : ℕ) (kind : Kind) (ws : List (List ℕ)) → Fits o es → fault_of_kind o (length es) line kind ws ≡ None
    → Fits (option_or o (problem_of_kind line kind ws)) (es ++ option_to_list (option_map from_one (link_of_kind kind ws)))
kind_fits o es line Comment ws fits none = nothing_more o es fits
kind_fits o es line TheProblem ws fits none = problem_fits o (problem_of_words line ws) es fits none
kind_fits o es line AnArc ws fits none = link_fits o es true NotAnArc (arc_of_words ws) (arc_fits ws) fits none
kind_fits o es line AnEdge ws fits none = link_fits o es false NotAnEdge (edge_of_words ws) (edge_fits ws) fits none
kind_fits o es line Other ws fits none = absurd cc

said_fits : (o : Option Problem) (es : List Insertion) (line : ℕ) (ws : List (List ℕ)) → Fits o es → fault_said o (length es) line ws ≡ None
    → Fits (option_or o (problem_said line ws)) (es ++ option_to_list (option_map from_one (link_said ws)))
said_fits o es line [] fits none = nothing_more o es fits
said_fits o es line (w ∷ ws) fits none = kind_fits o es line (kind_of w) ws fits none

line_fits : (before : List LineOf) (l : LineOf) → Fits (problem_of before) (links_in before) → fault_behind before l ≡ None → Fits (problem_of (before ++ l ∷ [])) (links_in (before ++ l ∷ []))
unfolding fault_behind
line_fits before l fits none =
    rw (problem_more before l, links_more before l) (said_fits (problem_of before) (links_in before) l.number (words l.bytes) fits none)

no_fault : (line : ℕ) (o : Option TextFault) → at_line line o ≡ None → o ≡ None
no_fault line None is = refl
no_fault line (Some f) is = absurd cc

nothing_fits : Fits (problem_of []) (links_in [])
unfolding problem_of links_in
nothing_fits = refl

first_fit : (ls : List LineOf) (n : ℕ) → ((i : ℕ) → i < length ls → line_fault ls i ≡ None) → n ≤ length ls → Fits (problem_of (take n ls)) (links_in (take n ls))
first_fit ls zero none within = nothing_fits
first_fit ls (suc n) none within =
    let no_line : LineOf = record { number = 0; bytes = [] } in
    let t = turn ls n (get_or ls n no_line) (drop (n + 1) ls) (drop_more ls n no_line (omega arith)) in
    let here = no_fault (get_or ls n no_line).number (fault_behind (take n ls) (get_or ls n no_line)) (none n (omega arith)) in
    let more = line_fits (take n ls) (get_or ls n no_line) (first_fit ls n none (omega arith)) here in
    let s : suc n ≡ n + 1 = omega arith in
    subst (λ k. Fits (problem_of (take k ls)) (links_in (take k ls))) (sym s) (subst (λ bs. Fits (problem_of bs) (links_in bs)) (sym t.before) more)

pub lines_fit : (ls : List LineOf) → first_line_fault ls ≡ None → Fits (problem_of ls) (links_in ls)
lines_fit ls none =
    subst (λ bs. Fits (problem_of bs) (links_in bs)) (take_all (length ls) ls (omega arith)) (first_fit ls (length ls) (all_of_none (line_fault ls) (length ls) none) (omega arith))

-- ---- the outline
All-range_with_len : (P : ℕ → Type 0) (a n : ℕ) → ((k : ℕ) → k < n → P (a + k)) → All P (range_with_len a n)
All-range_with_len P a n h k d lt =
    let within : k < n = omega (arith, length-range_with_len a n) in
    subst P (sym (get_or-range_with_len a n k d within)) (h k within)

names_text : (n : ℕ) → n ≤ 65535 → All IsText (numbered 1 n)
names_text n few =
    All-map IsText decimal (range_with_len 1 n)
    (All-range_with_len (λ m. IsText (decimal m)) 1 n (λ k h. text_from_short (lit≤ tt) (IsShort-decimal (1 + k) (omega arith))))

pub length-numbered : (n : ℕ) → length (numbered 1 n) ≡ n
length-numbered n = length-map (range_with_len 1 n) decimal ∙ length-range_with_len 1 n

id_from_test : (t : List ℕ) → is_id t ≡ true → IsId t
id_from_test t is =
    let p = and_parts (is_text t) (nat_le (length t) 160) is in
    let q = and_parts (nat_le (length t) 4095) (list_all is_text_byte t) p.0 in
    record { text = record { short = leb-true (length t) 4095 q.0; printable = q.1 }; short = leb-true (length t) 160 p.1 }

id_sound : (o : Option LineOf) → id_fault o ≡ None → IsId (id_of o)
id_sound None none = record { text = record { short = lit≤ tt; printable = refl }; short = lit≤ tt }
id_sound (Some l) none = id_from_test l.bytes (passes (is_id l.bytes) BadId None (no_fault l.number (fault_unless (is_id l.bytes) BadId None) none)).0

with_sound : (id : List ℕ) (o : Option Problem) (es : List Insertion) (last : ℕ) → IsId id → Fits o es → last_fault last o (length es) ≡ None → IsOutline (outline_with id o es)
with_sound id None es last named fits none = absurd cc
with_sound id (Some p) es last named fits none =
    record {
      id = named;
      names = names_text p.vertices fits.0;
      few_vertices = omega (arith, fits.0, length-numbered p.vertices);
      links = subst (λ n. All (IsLink n) es) (sym (length-numbered p.vertices)) fits.1;
      few_arcs = fits.2;
    }

either_none : {A : Type 0} (a b : Option A) → option_or a b ≡ None → (a ≡ None) × (b ≡ None)
either_none None b none = (refl, none)
either_none (Some x) b none = absurd cc

pub dimacs_sound : (text : List ℕ) → refusal_of_dimacs text ≡ None → IsOutline (outline_of_dimacs text)
unfolding refusal_of_dimacs outline_of_dimacs
dimacs_sound text none =
    let ls = lines text in
    let last = last_fault (length ls) (problem_of ls) (length (links_in ls)) in
    let a = either_none (id_fault (id_line ls)) (option_or (first_line_fault ls) last) none in
    let b = either_none (first_line_fault ls) last a.1 in
    with_sound (id_of (id_line ls)) (problem_of ls) (links_in ls) (length ls) (id_sound (id_line ls) a.0) (lines_fit ls b.0) b.1

pub read_sound : (text : List ℕ) (result : Result Kept ImportRefusal) → OnOk result (refusal_of_dimacs text ≡ None) → IfOk result (λ o. outline_of o ≡ outline_of_dimacs text) → IfOk result (λ o. IsOutline (outline_of o))
read_sound text (Ok o) none is = subst IsOutline (sym is) (dimacs_sound text none)
read_sound text (Err e) none is = tt
