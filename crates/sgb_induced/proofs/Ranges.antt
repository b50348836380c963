-- Lemmas on the numbers from one on.
use Rattle.std.proofs.Common.{◌≡◌, ◌<◌, ◌≤◌, ◌+◌, ℕ, zero, suc, List, [], ◌∷◌, ◌++◌, Bool, true, false, ◌&&◌, inl, inr, refl, sym, ap, ◌∙◌, arith}
use Rattle.std.specs.List.{flat_map, list_all, range_with_len, sum_by}
use Rattle.std.proofs.lemmas.Bool.{cases_Bool, cases_eq}
use Rattle.std.proofs.lemmas.List.{append-nil}
use Rattle.std.proofs.lemmas.List.Folds.{list_all-append}
use Rattle.std.proofs.lemmas.List.Sums.{sum_by_push}
use Rattle.std.proofs.lemmas.Grind.{flat_map-append}

range_suc : (a n : ℕ) → range_with_len a (suc n) ≡ range_with_len a n ++ (a + n) ∷ []
range_suc a zero = ap (λ k. k ∷ []) (let same : a ≡ a + 0 = omega arith in same)
range_suc a (suc n) =
    let same : (a + 1) + n ≡ a + suc n = omega arith in
    ap (λ ks. a ∷ ks) (range_suc (a + 1) n ∙ ap (λ k. range_with_len (a + 1) n ++ k ∷ []) same)

pub range_more : (a n : ℕ) → range_with_len a (n + 1) ≡ range_with_len a n ++ (a + n) ∷ []
range_more a n =
    let same : n + 1 ≡ suc n = omega arith in
    ap (range_with_len a) same ∙ range_suc a n

pub numbers_more : (n : ℕ) → range_with_len 0 (n + 1) ≡ range_with_len 0 n ++ n ∷ []
numbers_more n =
    let same : 0 + n ≡ n = omega arith in
    range_more 0 n ∙ ap (λ k. range_with_len 0 n ++ k ∷ []) same

pub flat_map_range_more : {A : Type 0} (f : ℕ → List A) (n : ℕ) → flat_map f (range_with_len 0 (n + 1)) ≡ flat_map f (range_with_len 0 n) ++ f n
flat_map_range_more f n =
    ap (flat_map f) (numbers_more n) ∙ (flat_map-append f (range_with_len 0 n) (n ∷ []) ∙ ap (λ xs. flat_map f (range_with_len 0 n) ++ xs) (append-nil (f n)))

pub sum_range_more : (f : ℕ → ℕ) (n : ℕ) → sum_by f (range_with_len 0 (n + 1)) ≡ sum_by f (range_with_len 0 n) + f n
sum_range_more f n = ap (sum_by f) (numbers_more n) ∙ sum_by_push f (range_with_len 0 n) n

pub all_range_more : (p : ℕ → Bool) (n : ℕ) → list_all p (range_with_len 0 n) ≡ true → p n ≡ true → list_all p (range_with_len 0 (n + 1)) ≡ true
all_range_more p n all one =
    ap (list_all p) (numbers_more n) ∙ (list_all-append p (range_with_len 0 n) (n ∷ []) ∙ rw (all, one) refl)

pub and_false : (b : Bool) → (b && false) ≡ false
and_false true = refl
and_false false = refl

all_fails_from : (p : ℕ → Bool) (a n v : ℕ) → a ≤ v → v < a + n → p v ≡ false → list_all p (range_with_len a n) ≡ false
all_fails_from p a zero v low high fails = absurd (omega (arith, low, high))
all_fails_from p a (suc n) v low high fails =
    elim (cases_eq a v) [
      | inl here ↦ rw (ap p here ∙ fails) refl
      | inr apart ↦ ap (λ b. p a && b) (all_fails_from p (a + 1) n v (omega (arith, low, apart)) (omega (arith, high)) fails) ∙ and_false (p a)
    ]

pub all_range_fails : (p : ℕ → Bool) (n v : ℕ) → v < n → p v ≡ false → list_all p (range_with_len 0 n) ≡ false
all_range_fails p n v h fails = all_fails_from p 0 n v (omega arith) (omega (arith, h)) fails

pub all_range_at : (p : ℕ → Bool) (n v : ℕ) → v < n → list_all p (range_with_len 0 n) ≡ true → p v ≡ true
all_range_at p n v h all =
    elim (cases_Bool (p v)) [
      | inl holds ↦ holds
      | inr fails ↦ absurd (let wrong : false ≡ true = sym (all_range_fails p n v h fails) ∙ all in cc)
    ]
