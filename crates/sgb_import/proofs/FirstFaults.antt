-- The first of several faults.
use Rattle.std.proofs.Common.{◌≡◌, ℕ, zero, suc, ◌<◌, List, [], ◌∷◌, ◌++◌, length, get_or, map, Option, Some, None, refl, sym, ◌∙◌, arith}
use Rattle.std.specs.List.{range_with_len}
use Rattle.std.specs.Option.{option_or}
use Rattle.std.proofs.lemmas.List.FromFn.{get_or-map-range_with_len, length-map-range_with_len}
use Rattle.sgb_import.specs.Refusal.{first_some}

module _ {T : Type 0} where
  skip : (o : Option T) (os : List (Option T)) → o ≡ None → first_some (o ∷ os) ≡ first_some os
  skip None os none = refl
  skip (Some x) os none = cc

  pub first_none : (os : List (Option T)) → ((i : ℕ) → i < length os → get_or os i None ≡ None) → first_some os ≡ None
  first_none [] none = refl
  first_none (o ∷ os) none = skip o os (none 0 (omega arith)) ∙ first_none os (λ i h. none (suc i) (omega arith))

  here : (o : Option T) (os : List (Option T)) (x : T) → o ≡ Some x → first_some (o ∷ os) ≡ Some x
  here None os x is = cc
  here (Some y) os x is = is

  pub first_at : (os : List (Option T)) (n : ℕ) (x : T) → n < length os → ((i : ℕ) → i < n → get_or os i None ≡ None) → get_or os n None ≡ Some x → first_some os ≡ Some x
  first_at [] n x within none is = absurd (omega arith)
  first_at (o ∷ os) zero x within none is = here o os x is
  first_at (o ∷ os) (suc n) x within none is = skip o os (none 0 (omega arith)) ∙ first_at os n x (omega arith) (λ i h. none (suc i) (omega arith)) is

  first_one : (o : Option T) → first_some (o ∷ []) ≡ o
  first_one None = refl
  first_one (Some x) = refl

  behind_one : (o c : Option T) (os bs : List (Option T)) → first_some os ≡ option_or (first_some bs) c → first_some (o ∷ os) ≡ option_or (first_some (o ∷ bs)) c
  behind_one None c os bs same = same
  behind_one (Some x) c os bs same = refl

  pub first_push : {A : Type 0} (f : A → Option T) (xs : List A) (x : A) → first_some (map f (xs ++ x ∷ [])) ≡ option_or (first_some (map f xs)) (f x)
  first_push f [] x = first_one (f x)
  first_push f (y ∷ ys) x = behind_one (f y) (f x) (map f (ys ++ x ∷ [])) (map f ys) (first_push f ys x)

  -- the same of a fault for each of so many places
  pub none_of : (f : ℕ → Option T) (n : ℕ) → ((i : ℕ) → i < n → f i ≡ None) → first_some (map f (range_with_len 0 n)) ≡ None
  none_of f n none =
      first_none (map f (range_with_len 0 n)) (λ i h. let low : i < n = omega (arith, length-map-range_with_len f 0 n) in get_or-map-range_with_len f 0 n i i None low (omega arith) ∙ none i low)

  pub first_of : (f : ℕ → Option T) (n k : ℕ) (x : T) → k < n → ((i : ℕ) → i < k → f i ≡ None) → f k ≡ Some x → first_some (map f (range_with_len 0 n)) ≡ Some x
  first_of f n k x within none is =
      first_at (map f (range_with_len 0 n)) k x (omega (arith, length-map-range_with_len f 0 n))
      (λ i h. get_or-map-range_with_len f 0 n i i None (omega arith) (omega arith) ∙ none i h)
      (get_or-map-range_with_len f 0 n k k None within (omega arith) ∙ is)

  head_none : (o : Option T) (os : List (Option T)) → first_some (o ∷ os) ≡ None → o ≡ None
  head_none None os none = refl
  head_none (Some x) os none = absurd cc

  tail_none : (o : Option T) (os : List (Option T)) → first_some (o ∷ os) ≡ None → first_some os ≡ None
  tail_none None os none = none
  tail_none (Some x) os none = absurd cc

  none_before : (os : List (Option T)) → first_some os ≡ None → (i : ℕ) → get_or os i None ≡ None
  none_before [] none zero = refl
  none_before [] none (suc i) = refl
  none_before (o ∷ os) none zero = head_none o os none
  none_before (o ∷ os) none (suc i) = none_before os (tail_none o os none) i

  pub all_of_none : (f : ℕ → Option T) (n : ℕ) → first_some (map f (range_with_len 0 n)) ≡ None → (i : ℕ) → i < n → f i ≡ None
  all_of_none f n none i h = sym (get_or-map-range_with_len f 0 n i i None h (omega arith)) ∙ none_before (map f (range_with_len 0 n)) none i
