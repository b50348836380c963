-- The overlap of two points by their codes.
use Rattle.std.proofs.Common.{◌≡◌, ◌<◌, ◌≤◌, ◌+◌, ◌-◌, ◌*◌, ◌%◌, ◌^◌, ℕ, suc, List, [], ◌∷◌, length, drop, map, min, bit_and, inl, inr, refl, sym, ap, ap₂, ◌∙◌, zero-add, arith}
use Rattle.std.specs.List.{sum, zip, slice_index}
use Rattle.std.specs.Int.Count.{ones, ones-ones}
use Rattle.std.proofs.Math.Nat.{mod-eq_of_lt}
use Rattle.std.proofs.Math.Pow.{ones_lt, suc_ones, pow_mono}
use Rattle.std.proofs.lemmas.Bool.{cases_lt}
use Rattle.std.proofs.lemmas.List.{drop_more, drop_all}
use Rattle.std.proofs.lemmas.Nat.{mul-add-lt, pow-add, and_le_l, and_comm, and_mask, and_block, ones_cat}
use Rattle.sgb_simplex.specs.Overlap.{overlap}
use Rattle.sgb_simplex.specs.Private.Codes.{code_from}
use Rattle.sgb_simplex.specs.Private.Counts.{IsPoint}
use Rattle.sgb_simplex.proofs.Simplices.{sum_cons}

pow_le : (x y : ℕ) → x ≤ y → 2 ^ x ≤ 2 ^ y
pow_le x y less = pow_mono less

-- two runs of ones share the shorter one
shared_below : (x y : ℕ) → x ≤ y → ones (bit_and (2 ^ x - 1) (2 ^ y - 1)) ≡ x
shared_below x y less =
    let low : 2 ^ x - 1 < 2 ^ y = omega (arith, pow_le x y less, ones_lt x) in
    ap ones (and_mask (2 ^ x - 1) y ∙ mod-eq_of_lt low) ∙ ones-ones x

shared : (x y : ℕ) → ones (bit_and (2 ^ x - 1) (2 ^ y - 1)) ≡ min x y
shared x y =
    elim (cases_lt x y) [
      | inl less ↦ shared_below x y (omega (arith, less)) ∙ omega (arith, less)
      | inr more ↦ ap ones (and_comm (2 ^ x - 1) (2 ^ y - 1)) ∙ (shared_below y x more ∙ omega (arith, more))
    ]

overlap_cons : (x y : ℕ) (s t : List ℕ) → overlap (x ∷ s) (y ∷ t) ≡ min x y + overlap s t
overlap_cons x y s t = sum_cons (min x y) (map (λ p. min p.0 p.1) (zip s t))

-- no more is shared than there is room for
overlap_few : (bs s t : List ℕ) → length s ≡ length bs → ((k : ℕ) → k < length bs → slice_index s k ≤ slice_index bs k) → overlap s t ≤ sum bs
overlap_few [] [] t long within = omega arith
overlap_few [] (x ∷ s) t long within = absurd (omega (arith, long))
overlap_few (b ∷ bs) [] t long within = absurd (omega (arith, long))
overlap_few (b ∷ bs) (x ∷ s) [] long within = omega arith
overlap_few (b ∷ bs) (x ∷ s) (y ∷ t) long within =
    let rest = overlap_few bs s t (omega (arith, long)) (λ k less. within (suc k) (omega (arith, less))) in
    let here : x ≤ b = within 0 (omega arith) in
    omega (arith, rest, here, overlap_cons x y s t, sum_cons b bs)

pub shared_codes : (a c : ℕ) (bs s t : List ℕ) → length s ≡ length bs → length t ≡ length bs → ((k : ℕ) → k < length bs → slice_index s k ≤ slice_index bs k) → ((k : ℕ) → k < length bs → slice_index t k ≤ slice_index bs k)
    → ones (bit_and (code_from a bs s) (code_from c bs t)) ≡ ones (bit_and a c) + overlap s t
unfolding code_from
shared_codes a c [] [] [] ls lt ws wt = omega arith
shared_codes a c [] [] (y ∷ t) ls lt ws wt = absurd (omega (arith, lt))
shared_codes a c [] (x ∷ s) t ls lt ws wt = absurd (omega (arith, ls))
shared_codes a c (b ∷ bs) [] t ls lt ws wt = absurd (omega (arith, ls))
shared_codes a c (b ∷ bs) (x ∷ s) [] ls lt ws wt = absurd (omega (arith, lt))
shared_codes a c (b ∷ bs) (x ∷ s) (y ∷ t) ls lt ws wt =
    let low : 2 ^ x - 1 < 2 ^ b = omega (arith, pow_le x b (ws 0 (omega arith)), ones_lt x) in
    let high : 2 ^ y - 1 < 2 ^ b = omega (arith, pow_le y b (wt 0 (omega arith)), ones_lt y) in
    let rest = shared_codes (a * 2 ^ b + (2 ^ x - 1)) (c * 2 ^ b + (2 ^ y - 1)) bs s t (omega (arith, ls)) (omega (arith, lt)) (λ k less. ws (suc k) (omega (arith, less))) (λ k less. wt (suc k) (omega (arith, less))) in
    let block : ones (bit_and (a * 2 ^ b + (2 ^ x - 1)) (c * 2 ^ b + (2 ^ y - 1))) ≡ ones (bit_and a c) + min x y =
    ap ones (and_block b a c (2 ^ x - 1) (2 ^ y - 1) low high)
    ∙ (ones_cat b (bit_and a c) (bit_and (2 ^ x - 1) (2 ^ y - 1)) (omega (arith, low, and_le_l (2 ^ x - 1) (2 ^ y - 1)))
    ∙ ap (λ n. ones (bit_and a c) + n) (shared x y)) in
    omega (arith, rest, block, overlap_cons x y s t)

-- ---- how a code is made
pub record CodeStep (code b x k m : ℕ) : Type 0 where
  pub shifted : code * 2 ^ b % m ≡ code * 2 ^ b
  pub bit : 1 * 2 ^ x % m ≡ 2 ^ x
  pub below : code * 2 ^ b + (2 ^ x - 1) < 2 ^ (k + b)
  pub fits : code * 2 ^ b + (2 ^ x - 1) < m

pub code_step : (code b x k m : ℕ) → 2 ^ 64 ≡ m → code < 2 ^ k → k + b < 64 → x ≤ b → CodeStep code b x k m
code_step code b x k m is small narrow less =
    let low : 2 ^ x - 1 < 2 ^ b = omega (arith, pow_le x b less, ones_lt x) in
    let inside : code * 2 ^ b + (2 ^ x - 1) < 2 ^ b * 2 ^ k = mul-add-lt code (2 ^ b) (2 ^ x - 1) (2 ^ k) small low in
    let product : 2 ^ b * 2 ^ k ≡ 2 ^ (k + b) = sym (pow-add 2 b k) ∙ ap (λ e. 2 ^ e) (let same : b + k ≡ k + b = omega arith in same) in
    let most : 2 ^ (k + b) ≤ m = omega (arith, pow_le (k + b) 64 (omega arith), is) in
    let bits : 2 ^ x < m = omega (arith, pow_le (suc x) 64 (omega arith), is, suc_ones x, ones_lt x) in
    record {
      shifted = mod-eq_of_lt (omega (arith, inside, product, most));
      bit = ap (λ n. n % m) (let one : 1 * 2 ^ x ≡ 2 ^ x = omega arith in one) ∙ mod-eq_of_lt bits;
      below = omega (arith, inside, product);
      fits = omega (arith, inside, product, most);
    }

pub code_more : (code : ℕ) (bs t : List ℕ) (i : ℕ) → i < length bs → i < length t → code_from code (drop i bs) (drop i t) ≡ code_from (code * 2 ^ slice_index bs i + (2 ^ slice_index t i - 1)) (drop (i + 1) bs) (drop (i + 1) t)
unfolding code_from
code_more code bs t i less in_t = ap₂ (λ l u. code_from code l u) (drop_more bs i 0 less) (drop_more t i 0 in_t)

code_nil : (code : ℕ) (t : List ℕ) → code_from code [] t ≡ code
unfolding code_from
code_nil code t = refl

pub code_end : (code : ℕ) (bs t : List ℕ) (i : ℕ) → length bs ≤ i → code_from code (drop i bs) (drop i t) ≡ code
unfolding code_from
code_end code bs t i done = ap (λ l. code_from code l (drop i t)) (drop_all i bs done) ∙ code_nil code (drop i t)

-- the overlap of two points
pub overlap_is : {total : ℕ} {bs s t : List ℕ} → IsPoint total bs s → IsPoint total bs t → (p q n : ℕ) → p ≡ code_from 0 bs s → q ≡ code_from 0 bs t → n ≡ ones (bit_and p q) → n ≡ overlap s t
unfolding ones
overlap_is {total} {bs} {s} {t} first second p q n ps qs is =
    is ∙ (ap₂ (λ a c. ones (bit_and a c)) ps qs ∙ (shared_codes 0 0 bs s t first.long second.long first.within second.within ∙ zero-add (overlap s t)))

-- and its bit is one of 64, where these have room for it
pub overlap_low : {total : ℕ} {bs s t : List ℕ} → IsPoint total bs s → IsPoint total bs t → (p q n : ℕ) → p ≡ code_from 0 bs s → q ≡ code_from 0 bs t → n ≡ ones (bit_and p q) → sum bs < 64 → n < 64
overlap_low {total} {bs} {s} {t} first second p q n ps qs is room =
    omega (arith, overlap_is first second p q n ps qs is, overlap_few bs s t first.long first.within, room)
