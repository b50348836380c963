-- Lemmas on sizes, their product, and the sides of a board.
use Rattle.std.proofs.Common.{◌≡◌, ◌<◌, ◌≤◌, ◌+◌, ◌*◌, ℕ, zero, suc, ℤ, List, [], ◌∷◌, ◌++◌, length, map, get_or, drop, All, Bool, refl, sym, ap, ◌∙◌, arith, append_assoc}
use Rattle.std.specs.List.{range_with_len, zip}
use Rattle.std.proofs.Math.Nat.{mul_assoc, mul_comm, le-mul_of_pos_right}
use Rattle.std.proofs.lemmas.List.{at_drop_more, drop_all, append-nil}
use Rattle.std.proofs.lemmas.List.Elements.{All-nil, All-cons, All-head, All-tail}
use Rattle.sgb_make.specs.declared.side.Side.{Side}
use Rattle.sgb_make.specs.Board.{side_at, sides_of, has_bit}
use Rattle.sgb_make.specs.Private.Rank.{volume, cells, IsSmall}

abbrev pub ArePositive : List ℕ → Type 0
ArePositive sizes = All (λ n. 0 < n) sizes

le-mul_of_pos_left : {m : ℕ} (n : ℕ) → 0 < m → n ≤ m * n
le-mul_of_pos_left {m} n some = omega (arith, le-mul_of_pos_right n some, mul_comm n m)

pub volume-positive : (sizes : List ℕ) → ArePositive sizes → 0 < volume sizes
unfolding volume
volume-positive [] some = omega arith
volume-positive (n ∷ sizes) some =
    let first : 0 < n = All-head (λ k. 0 < k) n sizes some in
    let rest = volume-positive sizes (All-tail (λ k. 0 < k) n sizes some) in
    omega (arith, first, le-mul_of_pos_right n rest)

positive_from : (sizes : List ℕ) (i : ℕ) → ArePositive sizes → ArePositive (drop i sizes)
positive_from sizes zero some = some
positive_from [] (suc i) some = some
positive_from (n ∷ sizes) (suc i) some = positive_from sizes i (All-tail (λ k. 0 < k) n sizes some)

-- so far this is the product, and the rest is left
pub record Multiplied (sizes : List ℕ) (count i : ℕ) : Type 0 where
  pub whole : count * volume (drop i sizes) ≡ volume sizes
  pub few : count ≤ 65535

volume-cons : (n : ℕ) (sizes : List ℕ) → volume (n ∷ sizes) ≡ n * volume sizes
unfolding volume
volume-cons n sizes = refl

volume_more : (sizes : List ℕ) (i : ℕ) → i < length sizes → volume (drop i sizes) ≡ get_or sizes i 0 * volume (drop (i + 1) sizes)
volume_more sizes i below = at_drop_more volume sizes i 0 below ∙ volume-cons (get_or sizes i 0) (drop (i + 1) sizes)

pub multiplied_start : (sizes : List ℕ) → Multiplied sizes 1 0
multiplied_start sizes = record { whole = omega arith; few = omega arith }

next_whole : {sizes : List ℕ} {count i : ℕ} → i < length sizes → Multiplied sizes count i → (count * get_or sizes i 0) * volume (drop (i + 1) sizes) ≡ volume sizes
next_whole {sizes} {count} {i} below m =
    mul_assoc count (get_or sizes i 0) (volume (drop (i + 1) sizes)) ∙ (ap (λ v. count * v) (sym (volume_more sizes i below)) ∙ m.whole)

pub multiplied_more : {sizes : List ℕ} {count i : ℕ} (more : ℕ) → i < length sizes → Multiplied sizes count i → more ≡ count * get_or sizes i 0 → more ≤ 65535 → Multiplied sizes more (i + 1)
multiplied_more {sizes} {count} {i} more below m is few =
    record { whole = ap (λ k. k * volume (drop (i + 1) sizes)) is ∙ next_whole below m; few = few }

pub multiplied_over : {sizes : List ℕ} {count i : ℕ} → i < length sizes → Multiplied sizes count i → ArePositive sizes → 65535 < count * get_or sizes i 0 → 65535 < volume sizes
multiplied_over {sizes} {count} {i} below m some over =
    let rest = volume-positive (drop (i + 1) sizes) (positive_from sizes (i + 1) some) in
    omega (arith, next_whole below m, le-mul_of_pos_right (count * get_or sizes i 0) rest, over)

pub multiplied_end : {sizes : List ℕ} {count i : ℕ} → length sizes ≤ i → Multiplied sizes count i → count ≡ volume sizes
unfolding volume
multiplied_end {sizes} {count} {i} end m =
    let one : volume (drop i sizes) ≡ 1 = ap (λ ns. volume ns) (drop_all i sizes end) in
    let same : count * volume (drop i sizes) ≡ count * 1 = ap (λ v. count * v) one in
    omega (arith, m.whole, same)

-- ---- each size of few positions is small
pub small_sizes : (sizes : List ℕ) → ArePositive sizes → volume sizes ≤ 65535 → All (λ n. n ≤ 65535) sizes
unfolding volume
small_sizes [] some few = All-nil (λ n. n ≤ 65535)
small_sizes (n ∷ sizes) some few =
    let first : 0 < n = All-head (λ k. 0 < k) n sizes some in
    let rest = All-tail (λ k. 0 < k) n sizes some in
    All-cons (λ k. k ≤ 65535) n sizes
    (omega (arith, le-mul_of_pos_right n (volume-positive sizes rest), few))
    (small_sizes sizes rest (omega (arith, le-mul_of_pos_left (volume sizes) first, few)))

-- ---- the sides
-- those of sizes whose places are numbered from here
abbrev pub sides_from : ℤ → ℕ → List ℕ → List Side
sides_from wrap at sizes = map (side_at wrap) (zip sizes (range_with_len at (length sizes)))

cells-sides_from : (wrap : ℤ) (at : ℕ) (sizes : List ℕ) → cells (sides_from wrap at sizes) ≡ volume sizes
unfolding cells volume
cells-sides_from wrap at [] = refl
cells-sides_from wrap at (n ∷ sizes) = ap (λ k. n * k) (cells-sides_from wrap (at + 1) sizes)

pub cells-sides_of : (wrap : ℤ) (sizes : List ℕ) → cells (sides_of wrap sizes) ≡ volume sizes
cells-sides_of wrap sizes = cells-sides_from wrap 0 sizes

length-sides_from : (wrap : ℤ) (at : ℕ) (sizes : List ℕ) → length (sides_from wrap at sizes) ≡ length sizes
length-sides_from wrap at [] = refl
length-sides_from wrap at (n ∷ sizes) = omega (arith, length-sides_from wrap (at + 1) sizes)

pub length-sides_of : (wrap : ℤ) (sizes : List ℕ) → length (sides_of wrap sizes) ≡ length sizes
length-sides_of wrap sizes = length-sides_from wrap 0 sizes

small-sides_from : (wrap : ℤ) (at : ℕ) (sizes : List ℕ) → ArePositive sizes → volume sizes ≤ 65535 → IsSmall (sides_from wrap at sizes)
unfolding cells volume
small-sides_from wrap at [] some few = tt
small-sides_from wrap at (n ∷ sizes) some few =
    let first : 0 < n = All-head (λ k. 0 < k) n sizes some in
    let rest = All-tail (λ k. 0 < k) n sizes some in
    (first, omega (arith, few, ap (λ k. n * k) (cells-sides_from wrap (at + 1) sizes)), small-sides_from wrap (at + 1) sizes rest (omega (arith, le-mul_of_pos_left (volume sizes) first, few)))

pub small-sides_of : (wrap : ℤ) (sizes : List ℕ) → ArePositive sizes → volume sizes ≤ 65535 → IsSmall (sides_of wrap sizes)
small-sides_of wrap sizes some few = small-sides_from wrap 0 sizes some few

-- one side more
pub sides_more : (wrap : ℤ) (sizes : List ℕ) (now new all : List Side) (k : ℕ) (bit : Bool) → k < length sizes → now ++ sides_from wrap k (drop k sizes) ≡ all → bit ≡ has_bit wrap k → new ≡ now ++ record { size = get_or sizes k 0; wraps = bit } ∷ [] → new ++ sides_from wrap (k + 1) (drop (k + 1) sizes) ≡ all
sides_more wrap sizes now new all k bit below so is pushed =
    ap (λ xs. xs ++ sides_from wrap (k + 1) (drop (k + 1) sizes)) pushed
    ∙ (append_assoc now (record { size = get_or sizes k 0; wraps = bit } ∷ []) (sides_from wrap (k + 1) (drop (k + 1) sizes))
    ∙ (ap (λ b. now ++ record { size = get_or sizes k 0; wraps = b } ∷ sides_from wrap (k + 1) (drop (k + 1) sizes)) is
    ∙ (sym (at_drop_more (λ ns. now ++ sides_from wrap k ns) sizes k 0 below) ∙ so)))

pub sides_end : (wrap : ℤ) (sizes : List ℕ) (now all : List Side) (k : ℕ) → length sizes ≤ k → now ++ sides_from wrap k (drop k sizes) ≡ all → now ≡ all
sides_end wrap sizes now all k end so =
    sym (append-nil now) ∙ (sym (ap (λ ns. now ++ sides_from wrap k ns) (drop_all k sizes end)) ∙ so)
