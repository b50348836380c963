-- A line in graph6 that was printed is read back.
use Rattle.std.proofs.Common.{◌≡◌, ℕ, ◌+◌, ◌-◌, ◌*◌, ◌/◌, ◌%◌, ◌<◌, ◌≤◌, Bool, true, false, not, List, [], ◌∷◌, ◌++◌, codes, length, take, drop, None, refl, sym, ap, ap₂, ◌∙◌, subst, arith, inl, inr, append-nil}
use Rattle.std.proofs.lemmas.Bool.{cases_lt, and_from, and_parts, le-leb, lt-leb, leb-true, eq-eqb, ne_eqb}
use Rattle.std.proofs.lemmas.List.{get_or_past}
use Rattle.std.proofs.lemmas.List.Elements.{All-weaker, All-cons, All-nil}
use Rattle.std.proofs.lemmas.List.Sums.{AllPass-from_list_all, list_all-from_AllPass}
use Rattle.std.specs.List.{range_with_len}
use Rattle.std.specs.Option.{option_map, option_or}
use Rattle.sgb_export.specs.Graph6.{size_bytes, packed}
use Rattle.sgb_import.specs.declared.refusal.ImportRefusal.TheVariants.{At}
use Rattle.sgb_import.specs.Graph6.{is_six_bits, is_set, number_in, tildes, size_end, has_size, size_in, body_in, without_header, pair_count, fits, fault_in, first_bytes, graph_bytes, second_graph, refusal_of_graph6}
use Rattle.sgb_import.specs.Lines.{behind, lines}
use Rattle.sgb_import.specs.Private.Pairs.{AreSixBits}
use Rattle.sgb_import.proofs.Graph6Bits.{packed-bit, length-packed}
use Rattle.sgb_import.proofs.Graph6Outlines.{All-range_with_len}
use Rattle.sgb_import.proofs.Graph6Sizes.{has_size-true}
use Rattle.sgb_import.proofs.ReadBack.{IsLine, lines_of_text}

-- bytes that begin with the size n, and have this body behind it
pub record IsSizedLine (n : ℕ) (body line : List ℕ) : Type 0 where
  pub six_bits : AreSixBits line
  pub size : has_size line ≡ true
  pub n_is : size_in line ≡ n
  pub body_is : body_in line ≡ body
  pub header : without_header line ≡ line

-- ---- the size in one byte
tildes-small : (n : ℕ) (body : List ℕ) → n ≤ 62 → tildes ((63 + n) ∷ body) ≡ 0
unfolding tildes
tildes-small n body h = rw (ne_eqb (63 + n) 126 (λ e. omega arith)) refl

size_end-small : (n : ℕ) (body : List ℕ) → n ≤ 62 → size_end ((63 + n) ∷ body) ≡ 1
unfolding size_end
size_end-small n body h = rw (tildes-small n body h) refl

size_in-small : (n : ℕ) (body : List ℕ) → n ≤ 62 → size_in ((63 + n) ∷ body) ≡ n
unfolding size_in number_in
size_in-small n body h =
    ap₂ (λ (i j : ℕ). number_in (drop i (take j ((63 + n) ∷ body)))) (tildes-small n body h) (size_end-small n body h) ∙ omega arith

body_in-small : (n : ℕ) (body : List ℕ) → n ≤ 62 → body_in ((63 + n) ∷ body) ≡ body
unfolding body_in
body_in-small n body h = ap (λ (j : ℕ). drop j ((63 + n) ∷ body)) (size_end-small n body h)

-- ---- in a tilde and three bytes
large : ℕ → ℕ → ℕ → List ℕ → List ℕ
large x y z body = 126 ∷ (63 + x) ∷ (63 + y) ∷ (63 + z) ∷ body

tildes-large : (x y z : ℕ) (body : List ℕ) → x ≤ 62 → tildes (large x y z body) ≡ 1
unfolding tildes large
tildes-large x y z body h = rw (ne_eqb (63 + x) 126 (λ e. omega arith)) refl

size_end-large : (x y z : ℕ) (body : List ℕ) → x ≤ 62 → size_end (large x y z body) ≡ 4
unfolding size_end
size_end-large x y z body h = rw (tildes-large x y z body h) refl

size_in-large : (x y z : ℕ) (body : List ℕ) → x ≤ 62 → size_in (large x y z body) ≡ 4096 * x + 64 * y + z
unfolding size_in number_in large
size_in-large x y z body h =
    ap₂ (λ (i j : ℕ). number_in (drop i (take j (large x y z body)))) (tildes-large x y z body h) (size_end-large x y z body h) ∙ omega arith

body_in-large : (x y z : ℕ) (body : List ℕ) → x ≤ 62 → body_in (large x y z body) ≡ body
unfolding body_in large
body_in-large x y z body h = ap (λ (j : ℕ). drop j (large x y z body)) (size_end-large x y z body h)

-- ---- either
headless : (b : ℕ) (bs : List ℕ) → 63 ≤ b → without_header (b ∷ bs) ≡ b ∷ bs
unfolding without_header behind
headless b bs h = rw (ne_eqb 62 b (λ e. omega arith)) refl

six_bits : (b : ℕ) → 63 ≤ b → b ≤ 126 → is_six_bits b ≡ true
six_bits b low high = and_from _ _ (le-leb 63 b low) (le-leb b 126 high)

small_line : (n : ℕ) (body : List ℕ) → n ≤ 62 → AreSixBits body → IsSizedLine n body ((63 + n) ∷ body)
small_line n body h six =
    let all : AreSixBits ((63 + n) ∷ body) = and_from _ _ (six_bits (63 + n) (omega arith) (omega arith)) six in
    record {
      six_bits = all;
      size = has_size-true ((63 + n) ∷ body) all (omega (arith, size_end-small n body h));
      n_is = size_in-small n body h;
      body_is = body_in-small n body h;
      header = headless (63 + n) body (omega arith);
    }

large_line : (x y z : ℕ) (body : List ℕ) → x ≤ 62 → y ≤ 63 → z ≤ 63 → AreSixBits body → IsSizedLine (4096 * x + 64 * y + z) body (large x y z body)
unfolding large
large_line x y z body p q r six =
    let all : AreSixBits (large x y z body) =
    and_from _ _ refl (and_from _ _ (six_bits (63 + x) (omega arith) (omega arith))
    (and_from _ _ (six_bits (63 + y) (omega arith) (omega arith)) (and_from _ _ (six_bits (63 + z) (omega arith) (omega arith)) six))) in
    record {
      six_bits = all;
      size = has_size-true (large x y z body) all (omega (arith, size_end-large x y z body p));
      n_is = size_in-large x y z body p;
      body_is = body_in-large x y z body p;
      header = headless 126 ((63 + x) ∷ (63 + y) ∷ (63 + z) ∷ body) (omega arith);
    }

size_bytes-small : (n : ℕ) → n ≤ 62 → size_bytes n ≡ (63 + n) ∷ []
size_bytes-small n h = rw (le-leb n 62 h) refl

size_bytes-large : (n : ℕ) → 62 < n → size_bytes n ≡ 126 ∷ (63 + n / 4096) ∷ (63 + n / 64 % 64) ∷ (63 + n % 64) ∷ []
size_bytes-large n h = rw (lt-leb n 62 h) refl

pub sized_line : (n : ℕ) (body : List ℕ) → n ≤ 65535 → AreSixBits body → IsSizedLine n body (size_bytes n ++ body)
unfolding large
sized_line n body few six =
    elim (cases_lt 62 n) [
      | inl lt ↦
          let x = n / 4096 in let y = n / 64 % 64 in let z = n % 64 in
          let e : 4096 * x + 64 * y + z ≡ n = omega arith in
          subst (λ (m : ℕ). IsSizedLine m body (size_bytes n ++ body)) e
          (subst (λ (bs : List ℕ). IsSizedLine (4096 * x + 64 * y + z) body (bs ++ body)) (sym (size_bytes-large n lt))
          (large_line x y z body (omega arith) (omega arith) (omega arith) six))
      | inr ge ↦ subst (λ (bs : List ℕ). IsSizedLine n body (bs ++ body)) (sym (size_bytes-small n ge)) (small_line n body ge six)
    ]

-- ---- the text of a line
no_control : (line : List ℕ) → AreSixBits line → IsLine line
no_control line six =
    All-weaker (λ b. is_six_bits b ≡ true) (λ b. 32 ≤ b) (λ b is. let low = leb-true 63 b (and_parts _ _ is).0 in omega arith) line
    (AllPass-from_list_all is_six_bits line six)

lines-one : (line : List ℕ) → AreSixBits line → lines (line ++ codes "\n") ≡ record { number = 1; bytes = line } ∷ record { number = 2; bytes = [] } ∷ []
lines-one line six =
    ap lines (sym (append-nil (line ++ codes "\n")))
    ∙ lines_of_text (line ∷ []) (All-cons IsLine line [] (no_control line six) (All-nil IsLine))

pub graph_bytes-one : (n : ℕ) (body line : List ℕ) → IsSizedLine n body line → graph_bytes (line ++ codes "\n") ≡ line
unfolding graph_bytes
graph_bytes-one n body line is = ap (λ ls. without_header (first_bytes ls)) (lines-one line is.six_bits) ∙ is.header

pub accepted-one : (n : ℕ) (body line : List ℕ) → IsSizedLine n body line → fault_in line ≡ None → refusal_of_graph6 (line ++ codes "\n") ≡ None
unfolding refusal_of_graph6 second_graph
accepted-one n body line is h =
    ap₂ (λ o ls. option_or (option_map (At 1) o) (second_graph (drop 1 ls))) (ap fault_in (graph_bytes-one n body line is) ∙ h) (lines-one line is.six_bits)

-- ---- the bits
pub packed-fits : (n : ℕ) (bits : List Bool) → length bits ≡ pair_count n → fits n (packed bits) ≡ true
unfolding fits
packed-fits n bits long =
    let count = pair_count n in
    let e : length (packed bits) ≡ (count + 5) / 6 = length-packed bits ∙ ap (λ (m : ℕ). (m + 5) / 6) long in
    and_from _ _ (eq-eqb (length (packed bits)) ((count + 5) / 6) e)
    (list_all-from_AllPass (λ k. not (is_set (packed bits) k)) (range_with_len count (6 * length (packed bits) - count))
    (All-range_with_len (λ k. not (is_set (packed bits) k) ≡ true) count (6 * length (packed bits) - count) (λ k h.
    ap not (packed-bit bits (count + k) ∙ get_or_past bits (count + k) false (omega arith)))))
