-- Lemmas on the first place of a list that passes a test.
use Rattle.std.proofs.Common.{◌≡◌, ◌<◌, ◌+◌, ℕ, zero, suc, List, [], ◌∷◌, ◌++◌, length, get_or, take, Option, Some, None, unwrap_or, Bool, true, false, cond, nat_lt, inl, inr, refl, sym, ap, ◌∙◌, arith}
use Rattle.std.specs.List.{position, position_or_len}
use Rattle.std.specs.Option.{option_map}
use Rattle.std.proofs.lemmas.Bool.{cases_Bool, lt-ltb, le-ltb, ltb-true, ltb-false}

lt_suc_by : (a b : ℕ) (r : Bool) → nat_lt a b ≡ r → nat_lt (suc a) (suc b) ≡ r
lt_suc_by a b true is = lt-ltb (suc a) (suc b) (omega (arith, ltb-true a b is))
lt_suc_by a b false is = le-ltb (suc a) (suc b) (omega (arith, ltb-false a b is))

lt_suc : (a b : ℕ) → nat_lt (suc a) (suc b) ≡ nat_lt a b
lt_suc a b = lt_suc_by a b (nat_lt a b) refl

-- `position`, where the first place that passes is known
place_if : ℕ → ℕ → Option ℕ
place_if i n = cond (nat_lt i n) (Some i) None

place_if-suc : (i n : ℕ) → place_if (suc i) (suc n) ≡ option_map (λ k. suc k) (place_if i n)
unfolding place_if
place_if-suc i n =
    elim (cases_Bool (nat_lt i n)) [
      | inl below ↦ rw (lt_suc i n, below) refl
      | inr above ↦ rw (lt_suc i n, above) refl
    ]

place_if-zero : (n : ℕ) → place_if 0 (suc n) ≡ Some 0
unfolding place_if
place_if-zero n = rw (lt-ltb 0 (suc n) (omega arith)) refl

one_more : (n : ℕ) → 1 + n ≡ suc n
one_more n = omega arith

pub position-cons : {X : Type 0} (p : X → Bool) (x : X) (xs : List X) → position p (x ∷ xs) ≡ cond (p x) (Some 0) (option_map (λ i. suc i) (position p xs))
unfolding place_if
position-cons p x xs =
    elim (cases_Bool (p x)) [
      | inl passes ↦ (let first : position_or_len p (x ∷ xs) ≡ 0 = rw passes refl in
          (ap (λ k. place_if k (suc (length xs))) first ∙ place_if-zero (length xs)) ∙ sym (ap (λ b. cond b (Some 0) (option_map (λ i. suc i) (position p xs))) passes))
      | inr fails ↦ (let later : position_or_len p (x ∷ xs) ≡ suc (position_or_len p xs) = rw fails (one_more (position_or_len p xs)) in
          (ap (λ k. place_if k (suc (length xs))) later ∙ place_if-suc (position_or_len p xs) (length xs)) ∙ sym (ap (λ b. cond b (Some 0) (option_map (λ i. suc i) (position p xs))) fails))
    ]

place_yes : {X : Type 0} (p : X → Bool) (x : X) (xs : List X) → p x ≡ true → position p (x ∷ xs) ≡ Some 0
place_yes p x xs passes = position-cons p x xs ∙ ap (λ b. cond b (Some 0) (option_map (λ i. suc i) (position p xs))) passes

place_no : {X : Type 0} (p : X → Bool) (x : X) (xs : List X) → p x ≡ false → position p (x ∷ xs) ≡ option_map (λ i. suc i) (position p xs)
place_no p x xs fails = position-cons p x xs ∙ ap (λ b. cond b (Some 0) (option_map (λ i. suc i) (position p xs))) fails

-- the place, or else where the next element passes
abbrev pub or_next : Option ℕ → Bool → ℕ → Option ℕ
or_next None passes n = cond passes (Some n) None
or_next (Some i) passes n = Some i

or_next-suc : (o : Option ℕ) (b : Bool) (n : ℕ) → option_map (λ i. suc i) (or_next o b n) ≡ or_next (option_map (λ i. suc i) o) b (suc n)
or_next-suc None true n = refl
or_next-suc None false n = refl
or_next-suc (Some i) b n = refl

pub position_push : {X : Type 0} (p : X → Bool) (xs : List X) (y : X) → position p (xs ++ y ∷ []) ≡ or_next (position p xs) (p y) (length xs)
position_push p [] y =
    elim (cases_Bool (p y)) [
      | inl passes ↦ rw passes refl
      | inr fails ↦ rw fails refl
    ]
position_push p (x ∷ xs) y =
    elim (cases_Bool (p x)) [
      | inl passes ↦ place_yes p x (xs ++ y ∷ []) passes ∙ (sym (ap (λ o. or_next o (p y) (suc (length xs))) (place_yes p x xs passes)))
      | inr fails ↦ place_no p x (xs ++ y ∷ []) fails ∙ (ap (option_map (λ i. suc i)) (position_push p xs y) ∙ (or_next-suc (position p xs) (p y) (length xs) ∙ sym (ap (λ o. or_next o (p y) (suc (length xs))) (place_no p x xs fails))))
    ]

unwrap-suc : (o : Option ℕ) (w : ℕ) → unwrap_or (option_map (λ i. suc i) o) (suc w) ≡ suc (unwrap_or o w)
unwrap-suc None w = refl
unwrap-suc (Some i) w = refl

-- where element v passes, the first place that passes is one before v, or v
pub first_or_here : {X : Type 0} (p : X → Bool) (xs : List X) (v : ℕ) (d : X) → v < length xs → p (get_or xs v d) ≡ true → position_or_len p xs ≡ unwrap_or (position p (take v xs)) v
first_or_here p [] v d h passes = absurd (omega (arith, h))
first_or_here p (x ∷ xs) zero d h passes = rw passes refl
first_or_here p (x ∷ xs) (suc w) d h passes =
    elim (cases_Bool (p x)) [
      | inl now ↦ (let left : position_or_len p (x ∷ xs) ≡ 0 = rw now refl in
          left ∙ sym (ap (λ o. unwrap_or o (suc w)) (place_yes p x (take w xs) now)))
      | inr later ↦ (let left : position_or_len p (x ∷ xs) ≡ suc (position_or_len p xs) = rw later (one_more (position_or_len p xs)) in
          left ∙ (ap (λ i. suc i) (first_or_here p xs w d (omega (arith, h)) passes) ∙ (sym (unwrap-suc (position p (take w xs)) w) ∙ sym (ap (λ o. unwrap_or o (suc w)) (place_no p x (take w xs) later)))))
    ]
