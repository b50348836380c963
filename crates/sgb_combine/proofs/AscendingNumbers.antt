-- Lemmas on strictly rising numbers.
use Rattle.std.proofs.Common.{◌≡◌, ◌<◌, ◌≤◌, ◌+◌, ◌==◌, ℕ, zero, suc, List, [], ◌∷◌, Bool, true, false, ◌||◌, All, cond, eqb, inl, inr, refl, sym, ap, subst, ◌∙◌, arith}
use Rattle.std.specs.List.{list_any, filter, range_with_len, dedup, AllPairs}
use Rattle.std.specs.List.Sorted.{IsStrictlyIncreasing}
use Rattle.std.proofs.lemmas.Bool.{eq-eqb, eqb-true, ne_eqb, cases_eq, cases_Bool}
use Rattle.std.proofs.lemmas.List.Elements.{All-head, All-tail}
use Rattle.std.proofs.lemmas.List.Kept.{AllPairs-from_increasing}

-- the number is one of these
abbrev pub is_one : ℕ → List ℕ → Bool
is_one w ns = list_any (λ x. x == w) ns

-- the numbers rise from a on
abbrev pub Rising : ℕ → List ℕ → Type 0
Rising a [] = Unit {0}
Rising a (x ∷ xs) = (a ≤ x) × Rising (x + 1) xs

-- none below the first is one of them
not_below : (a w : ℕ) (xs : List ℕ) → Rising a xs → w < a → is_one w xs ≡ false
not_below a w [] up low = refl
not_below a w (x ∷ xs) up low =
    rw (ne_eqb x w (λ same. omega (arith, up.0))) (not_below (x + 1) w xs up.1 (omega (arith, up.0)))

rising_from : (a b : ℕ) (xs : List ℕ) → Rising a xs → is_one a xs ≡ false → b ≡ a + 1 → Rising b xs
rising_from a b [] up other is = tt
rising_from a b (x ∷ xs) up other is =
    elim (cases_eq x a) [
      | inl same ↦ absurd (let here : is_one a (x ∷ xs) ≡ true = rw (eq-eqb x a same) refl in cc)
      | inr apart ↦ (omega (arith, up.0), up.1)
    ]

-- rising numbers are all those that pass a test, where the test tells which numbers they are
pub rising_is_filter : (p : ℕ → Bool) (n a : ℕ) (xs : List ℕ) → Rising a xs → All (λ x. x < a + n) xs → ((w : ℕ) → a ≤ w → w < a + n → is_one w xs ≡ p w) → xs ≡ filter p (range_with_len a n)
rising_is_filter p zero a [] up below tells = refl
rising_is_filter p zero a (x ∷ xs) up below tells = absurd (omega (arith, up.0, All-head (λ y. y < a + 0) x xs below))
rising_is_filter p (suc n) a [] up below tells =
    let here : p a ≡ false = sym (tells a (omega arith) (omega arith)) in
    let rest = filter p (range_with_len (a + 1) n) in
    let more : [] ≡ rest = rising_is_filter p n (a + 1) [] tt (λ k d low. absurd (omega arith)) (λ w from to. tells w (omega arith) (omega arith)) in
    more ∙ sym (ap (λ b. cond b (a ∷ rest) rest) here)
rising_is_filter p (suc n) a (x ∷ xs) up below tells =
    elim (cases_eq x a) [
      | inl same ↦
          let here : p a ≡ true = sym (tells a (omega arith) (omega arith)) ∙ rw (eq-eqb x a same) refl in
          let rest : xs ≡ filter p (range_with_len (a + 1) n) =
          rising_is_filter p n (a + 1) xs (subst (λ b. Rising b xs) (let step : x + 1 ≡ a + 1 = omega arith in step) up.1)
          (λ k d low. let h = All-tail (λ y. y < a + suc n) x xs below k d low in omega (arith, h))
          (λ w from to. sym (rw (ne_eqb x w (λ is. omega arith)) refl) ∙ tells w (omega arith) (omega arith)) in
          rw here (ap (λ y. y ∷ xs) same ∙ ap (λ ys. a ∷ ys) rest)
      | inr apart ↦
          let none : is_one a (x ∷ xs) ≡ false = not_below (a + 1) a (x ∷ xs) (omega (arith, up.0), up.1) (omega arith) in
          let here : p a ≡ false = sym (tells a (omega arith) (omega arith)) ∙ none in
          rw here (rising_is_filter p n (a + 1) (x ∷ xs) (omega (arith, up.0), up.1)
          (λ k d low. let h = below k d low in omega (arith, h))
          (λ w from to. tells w (omega arith) (omega arith)))
    ]

pairs_rise : (a : ℕ) (xs : List ℕ) → All (λ x. a ≤ x) xs → AllPairs (λ x y. x < y) xs → Rising a xs
pairs_rise a [] from apart = tt
pairs_rise a (x ∷ xs) from apart = (
  All-head (λ y. a ≤ y) x xs from,
  pairs_rise (x + 1) xs (λ k d low. let less = apart zero (suc k) d (omega arith) (omega arith) in omega (arith, less)) (λ i j d less low. apart (suc i) (suc j) d (omega arith) (omega arith)),
)

pub rises : (xs : List ℕ) → IsStrictlyIncreasing xs → Rising 0 xs
rises xs up = pairs_rise 0 xs (λ k d low. omega arith) (AllPairs-from_increasing xs up)

-- what is left where equal neighbours are one
or_again : (a b : Bool) → (a || b) ≡ (a || (a || b))
or_again true b = refl
or_again false b = refl

one-dedup : (w k : ℕ) (xs : List ℕ) → is_one w (dedup eqb (k ∷ xs)) ≡ ((k == w) || is_one w xs)
one-dedup w k [] = refl
one-dedup w k (x ∷ xs) =
    elim (cases_Bool (eqb x k)) [
      | inl same ↦
          let is : x ≡ k = eqb-true x k same in
          rw same (one-dedup w k xs ∙ (or_again (k == w) (is_one w xs) ∙ ap (λ y. (k == w) || ((y == w) || is_one w xs)) (sym is)))
      | inr apart ↦ rw apart (ap (λ b. (k == w) || b) (one-dedup w x xs))
    ]

pub is_one-dedup : (w : ℕ) (xs : List ℕ) → is_one w (dedup eqb xs) ≡ is_one w xs
is_one-dedup w [] = refl
is_one-dedup w (x ∷ xs) = one-dedup w x xs
