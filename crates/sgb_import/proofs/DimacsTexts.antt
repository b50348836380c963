-- Lemmas on texts of DIMACS that were printed: their lines, and what each says.
use Rattle.std.proofs.Common.{◌≡◌, ◌<◌, ◌≤◌, ◌+◌, ◌-◌, ◌^◌, ℕ, ℤ, pos, List, [], ◌∷◌, ◌++◌, codes, length, map, Some, None, Option, Bool, true, false, nat_le, All, FitsSigned, w64, refl, ap, ap₂, ◌∙◌, arith}
use Rattle.std.specs.Fmt.{decimal, signed_decimal}
use Rattle.std.specs.List.{list_all}
use Rattle.std.specs.Option.{option_map}
use Rattle.std.proofs.lemmas.Bool.{and_from, and_parts, leb-true, le-leb}
use Rattle.std.proofs.lemmas.List.Elements.{All-append, All-cons, All-nil}
use Rattle.sgb_graph.specs.Builder.{Insertion, insertion}
use Rattle.sgb_graph.specs.Graph.{IsId}
use Rattle.sgb_import.specs.declared.dimacs_line.Problem.{Problem}
use Rattle.sgb_import.specs.declared.refusal.TextFault.{TextFault}
use Rattle.sgb_import.specs.declared.refusal.TextFault.TheVariants.{NotAnArc, NotAnEdge}
use Rattle.sgb_import.specs.Dimacs.{arc_of_words, edge_of_words, ends_fault, fault_said, from_one, direction_of, is_vertex, link_fault, link_in, link_said, link_with, problem_of_words, problem_said, problem_with}
use Rattle.sgb_import.specs.Lines.{LineOf, words}
use Rattle.sgb_import.specs.Numbers.{length_of, natural_of}
use Rattle.sgb_import.specs.Outline.{IsLink, arcs_of_links}
use Rattle.sgb_import.proofs.ReadBack.{IsLine, IsWord, length_of_signed, line_of_text, line_of_word, natural_of_decimal, no_words, word_of_decimal, word_of_signed, words_first, words_last}

-- ---- the lines
abbrev pub kind_bytes : Bool → List ℕ
kind_bytes true = codes "sp"
kind_bytes false = codes "edge"

-- c ID
abbrev pub id_bytes : List ℕ → List ℕ
id_bytes id = codes "c" ++ (32 ∷ id)

-- p sp N M, or p edge N M
abbrev pub problem_bytes : Bool → ℕ → ℕ → List ℕ
problem_bytes directed n m = codes "p" ++ (32 ∷ (kind_bytes directed ++ (32 ∷ (decimal n ++ (32 ∷ decimal m)))))

-- a U V LEN, or e U V
abbrev pub link_bytes : Bool → Insertion → List ℕ
link_bytes true e = codes "a" ++ (32 ∷ (decimal (e.from + 1) ++ (32 ∷ (decimal (e.to + 1) ++ (32 ∷ signed_decimal e.len)))))
link_bytes false e = codes "e" ++ (32 ∷ (decimal (e.from + 1) ++ (32 ∷ decimal (e.to + 1))))

abbrev pub dimacs_lines : Bool → ℕ → List ℕ → List Insertion → List (List ℕ)
dimacs_lines directed n id es = id_bytes id ∷ (problem_bytes directed n (length es) ∷ map (link_bytes directed) es)

-- an edge has no length in the text
abbrev pub read_as : Bool → Insertion → Insertion
read_as true e = e
read_as false e = insertion e.from e.to (pos 1)

abbrev pub problem : Bool → ℕ → ℕ → Problem
problem directed n m = record { line = 2; directed = directed; vertices = n; links = m }

-- ---- their bytes
high_bytes : (bs : List ℕ) → list_all (λ b. nat_le 33 b) bs ≡ true → All (λ b. 33 ≤ b) bs
high_bytes [] all = All-nil (λ b. 33 ≤ b)
high_bytes (b ∷ bs) all =
    let p = and_parts (nat_le 33 b) (list_all (λ c. nat_le 33 c) bs) all in
    All-cons (λ c. 33 ≤ c) b bs (leb-true 33 b p.0) (high_bytes bs p.1)

c_word : IsWord (codes "c")
c_word = record { some = omega arith; bytes = high_bytes (codes "c") refl }

p_word : IsWord (codes "p")
p_word = record { some = omega arith; bytes = high_bytes (codes "p") refl }

a_word : IsWord (codes "a")
a_word = record { some = omega arith; bytes = high_bytes (codes "a") refl }

e_word : IsWord (codes "e")
e_word = record { some = omega arith; bytes = high_bytes (codes "e") refl }

kind_word : (directed : Bool) → IsWord (kind_bytes directed)
kind_word true = record { some = omega arith; bytes = high_bytes (codes "sp") refl }
kind_word false = record { some = omega arith; bytes = high_bytes (codes "edge") refl }

line_more : (w rest : List ℕ) → IsWord w → IsLine rest → IsLine (w ++ (32 ∷ rest))
line_more w rest is more = All-append (λ b. 32 ≤ b) w (32 ∷ rest) (line_of_word w is) (All-cons (λ b. 32 ≤ b) 32 rest (omega arith) more)

pub id_line_fine : (id : List ℕ) → IsId id → IsLine (id_bytes id)
id_line_fine id is = line_more (codes "c") id c_word (line_of_text id is.text)

pub problem_line_fine : (directed : Bool) (n m : ℕ) → n < 2 ^ 64 → m < 2 ^ 64 → IsLine (problem_bytes directed n m)
problem_line_fine directed n m small few =
    line_more (codes "p") (kind_bytes directed ++ (32 ∷ (decimal n ++ (32 ∷ decimal m)))) p_word
    (line_more (kind_bytes directed) (decimal n ++ (32 ∷ decimal m)) (kind_word directed)
    (line_more (decimal n) (decimal m) (word_of_decimal n small) (line_of_word (decimal m) (word_of_decimal m few))))

pub link_line_fine : (directed : Bool) (n : ℕ) (e : Insertion) → n ≤ 65535 → IsLink n e → IsLine (link_bytes directed e)
link_line_fine true n e small is =
    let a = is.from in
    let b = is.to in
    line_more (codes "a") (decimal (e.from + 1) ++ (32 ∷ (decimal (e.to + 1) ++ (32 ∷ signed_decimal e.len)))) a_word
    (line_more (decimal (e.from + 1)) (decimal (e.to + 1) ++ (32 ∷ signed_decimal e.len)) (word_of_decimal (e.from + 1) (omega arith))
    (line_more (decimal (e.to + 1)) (signed_decimal e.len) (word_of_decimal (e.to + 1) (omega arith)) (line_of_word (signed_decimal e.len) (word_of_signed e.len is.len))))
link_line_fine false n e small is =
    let a = is.from in
    let b = is.to in
    line_more (codes "e") (decimal (e.from + 1) ++ (32 ∷ decimal (e.to + 1))) e_word
    (line_more (decimal (e.from + 1)) (decimal (e.to + 1)) (word_of_decimal (e.from + 1) (omega arith)) (line_of_word (decimal (e.to + 1)) (word_of_decimal (e.to + 1) (omega arith))))

-- ---- their words
pub id_words : (id : List ℕ) → words (id_bytes id) ≡ codes "c" ∷ words id
id_words id = words_first (codes "c") id c_word

pub problem_words : (directed : Bool) (n m : ℕ) → n < 2 ^ 64 → m < 2 ^ 64 → words (problem_bytes directed n m) ≡ codes "p" ∷ (kind_bytes directed ∷ (decimal n ∷ (decimal m ∷ [])))
problem_words directed n m small few =
    words_first (codes "p") (kind_bytes directed ++ (32 ∷ (decimal n ++ (32 ∷ decimal m)))) p_word
    ∙ ap (λ ws. codes "p" ∷ ws) (words_first (kind_bytes directed) (decimal n ++ (32 ∷ decimal m)) (kind_word directed)
    ∙ ap (λ ws. kind_bytes directed ∷ ws) (words_first (decimal n) (decimal m) (word_of_decimal n small)
    ∙ ap (λ ws. decimal n ∷ ws) (words_last (decimal m) (word_of_decimal m few))))

arc_words : (u v : ℕ) (z : ℤ) → u < 2 ^ 64 → v < 2 ^ 64 → FitsSigned w64 z
    → words (codes "a" ++ (32 ∷ (decimal u ++ (32 ∷ (decimal v ++ (32 ∷ signed_decimal z)))))) ≡ codes "a" ∷ (decimal u ∷ (decimal v ∷ (signed_decimal z ∷ [])))
arc_words u v z a b fits =
    words_first (codes "a") (decimal u ++ (32 ∷ (decimal v ++ (32 ∷ signed_decimal z)))) a_word
    ∙ ap (λ ws. codes "a" ∷ ws) (words_first (decimal u) (decimal v ++ (32 ∷ signed_decimal z)) (word_of_decimal u a)
    ∙ ap (λ ws. decimal u ∷ ws) (words_first (decimal v) (signed_decimal z) (word_of_decimal v b)
    ∙ ap (λ ws. decimal v ∷ ws) (words_last (signed_decimal z) (word_of_signed z fits))))

edge_words : (u v : ℕ) → u < 2 ^ 64 → v < 2 ^ 64 → words (codes "e" ++ (32 ∷ (decimal u ++ (32 ∷ decimal v)))) ≡ codes "e" ∷ (decimal u ∷ (decimal v ∷ []))
edge_words u v a b =
    words_first (codes "e") (decimal u ++ (32 ∷ decimal v)) e_word
    ∙ ap (λ ws. codes "e" ∷ ws) (words_first (decimal u) (decimal v) (word_of_decimal u a)
    ∙ ap (λ ws. decimal u ∷ ws) (words_last (decimal v) (word_of_decimal v b)))

-- ---- what they say
kind_read : (directed : Bool) → direction_of (kind_bytes directed) ≡ Some directed
kind_read true = refl
kind_read false = refl

problem_read : (directed : Bool) (line n m : ℕ) → n < 2 ^ 64 → m < 2 ^ 64
    → problem_of_words line (kind_bytes directed ∷ (decimal n ∷ (decimal m ∷ []))) ≡ Some (record { line = line; directed = directed; vertices = n; links = m })
unfolding problem_of_words
problem_read directed line n m small few =
    ap (λ k. problem_with line k (natural_of (decimal n)) (natural_of (decimal m))) (kind_read directed)
    ∙ ap₂ (λ a b. problem_with line (Some directed) a b) (natural_of_decimal n small) (natural_of_decimal m few)

arc_read : (u v : ℕ) (z : ℤ) → u < 2 ^ 64 → v < 2 ^ 64 → FitsSigned w64 z → arc_of_words (decimal u ∷ (decimal v ∷ (signed_decimal z ∷ []))) ≡ Some (insertion u v z)
unfolding arc_of_words
arc_read u v z a b fits =
    ap₂ (λ x y. link_with x y (length_of (signed_decimal z))) (natural_of_decimal u a) (natural_of_decimal v b)
    ∙ ap (λ y. link_with (Some u) (Some v) y) (length_of_signed z fits)

edge_read : (u v : ℕ) → u < 2 ^ 64 → v < 2 ^ 64 → edge_of_words (decimal u ∷ (decimal v ∷ [])) ≡ Some (insertion u v (pos 1))
unfolding edge_of_words
edge_read u v a b = ap₂ (λ x y. link_with x y (Some (pos 1))) (natural_of_decimal u a) (natural_of_decimal v b)

-- a line adds this problem, or this arc or edge, and is not at fault behind that problem and so many arcs or edges
pub record Says (o : Option Problem) (m : ℕ) (l : LineOf) (p : Option Problem) (e : Option Insertion) : Type 0 where
  pub fault : fault_said o m l.number (words l.bytes) ≡ None
  pub problem_is : problem_said l.number (words l.bytes) ≡ p
  pub link : link_in l ≡ e

pub id_says : (o : Option Problem) (m k : ℕ) (id : List ℕ) → Says o m (record { number = k; bytes = id_bytes id }) None None
id_says o m k id = record {
  fault = ap (fault_said o m k) (id_words id);
  problem_is = ap (problem_said k) (id_words id);
  link = ap (λ ws. option_map from_one (link_said ws)) (id_words id);
}

pub empty_says : (o : Option Problem) (m k : ℕ) → Says o m (record { number = k; bytes = [] }) None None
empty_says o m k = record {
  fault = ap (fault_said o m k) no_words;
  problem_is = ap (problem_said k) no_words;
  link = ap (λ ws. option_map from_one (link_said ws)) no_words;
}

pub problem_says : (directed : Bool) (m k n c : ℕ) → n ≤ 65535 → c < 2 ^ 64
    → Says None m (record { number = k; bytes = problem_bytes directed n c }) (Some (record { line = k; directed = directed; vertices = n; links = c })) None
problem_says directed m k n c small few =
    let is_words = problem_words directed n c (omega arith) few in
    let read = problem_read directed k n c (omega arith) few in
    record {
      fault = ap (fault_said None m k) is_words ∙ rw (read, le-leb n 65535 small) refl;
      problem_is = ap (problem_said k) is_words ∙ read;
      link = ap (λ ws. option_map from_one (link_said ws)) is_words;
    }

minus_one : (n : ℕ) → (n + 1) - 1 ≡ n
minus_one n = omega arith

known : (n v : ℕ) → v < n → is_vertex n (v + 1) ≡ true
known n v inside = and_from (nat_le 1 (v + 1)) (nat_le (v + 1) n) (le-leb 1 (v + 1) (omega arith)) (le-leb (v + 1) n (omega arith))

fine_ends : (p : Problem) (m : ℕ) (ill : TextFault) (u v : ℕ) (z : ℤ) → u < p.vertices → v < p.vertices → arcs_of_links p.directed (m + 1) ≤ 1000000
    → ends_fault p m ill (Some (insertion (u + 1) (v + 1) z)) ≡ None
fine_ends p m ill u v z a b few = rw (known p.vertices u a, known p.vertices v b, le-leb (arcs_of_links p.directed (m + 1)) 1000000 few) refl

back_one : (u v : ℕ) (z : ℤ) → from_one (insertion (u + 1) (v + 1) z) ≡ insertion u v z
back_one u v z = ap₂ (λ a b. insertion a b z) (minus_one u) (minus_one v)

pub link_says : (directed : Bool) (m k n c : ℕ) (e : Insertion) → n ≤ 65535 → IsLink n e → arcs_of_links directed (m + 1) ≤ 1000000
    → Says (Some (problem directed n c)) m (record { number = k; bytes = link_bytes directed e }) None (Some (read_as directed e))
link_says true m k n c e small is few =
    let a = is.from in
    let b = is.to in
    let is_words = arc_words (e.from + 1) (e.to + 1) e.len (omega arith) (omega arith) is.len in
    let read = arc_read (e.from + 1) (e.to + 1) e.len (omega arith) (omega arith) is.len in
    record {
      fault = ap (fault_said (Some (problem true n c)) m k) is_words ∙ (ap (link_fault (Some (problem true n c)) m true NotAnArc) read ∙ fine_ends (problem true n c) m NotAnArc e.from e.to e.len a b few);
      problem_is = ap (problem_said k) is_words;
      link = ap (λ ws. option_map from_one (link_said ws)) is_words ∙ (ap (option_map from_one) read ∙ ap (λ x. Some x) (back_one e.from e.to e.len));
    }
link_says false m k n c e small is few =
    let a = is.from in
    let b = is.to in
    let is_words = edge_words (e.from + 1) (e.to + 1) (omega arith) (omega arith) in
    let read = edge_read (e.from + 1) (e.to + 1) (omega arith) (omega arith) in
    record {
      fault = ap (fault_said (Some (problem false n c)) m k) is_words ∙ (ap (link_fault (Some (problem false n c)) m false NotAnEdge) read ∙ fine_ends (problem false n c) m NotAnEdge e.from e.to (pos 1) a b few);
      problem_is = ap (problem_said k) is_words;
      link = ap (λ ws. option_map from_one (link_said ws)) is_words ∙ (ap (option_map from_one) read ∙ ap (λ x. Some x) (back_one e.from e.to (pos 1)));
    }
