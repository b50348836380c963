-- Lemmas on filters, and on lists that are joined.
use Rattle.std.proofs.Common.{◌≡◌, ◌≢◌, ◌<◌, ◌≤◌, ◌+◌, ℕ, zero, suc, List, [], ◌∷◌, take, drop, Bool, true, false, All, Contains, ◌⊎◌, inl, inr, refl, sym, ap, subst, ◌∙◌, arith}
use Rattle.std.specs.List.{flat_map, filter, list_all, range_with_len}
use Rattle.std.proofs.lemmas.Bool.{false≢true, cases_Bool, cases_lt, and_parts, and_from}
use Rattle.std.proofs.lemmas.List.Elements.{All-contains, All-nil, All-cons, Contains-append_left, Contains-append_right, Contains-append_cases}
use Rattle.sgb_plan.specs.Distinct.{Distinct}
use Rattle.sgb_plan.proofs.Lists.{filter_none}
use Rattle.sgb_plan.proofs.Distincts.{Distinct-head, Distinct-tail}

-- ---- filters
pub filter_all : {X : Type 0} (p : X → Bool) (xs : List X) → list_all p xs ≡ true → filter p xs ≡ xs
filter_all p [] all = refl
filter_all p (x ∷ xs) all =
    let both = and_parts (p x) (list_all p xs) all in
    let passes : p x ≡ true = both.0 in
    rw passes (ap (λ ys. x ∷ ys) (filter_all p xs both.1))

-- a filter behind a weaker one
pub filter_within : {X : Type 0} (p q : X → Bool) → ((x : X) → p x ≡ true → q x ≡ true) → (xs : List X) → filter p (filter q xs) ≡ filter p xs
filter_within p q weaker [] = refl
filter_within p q weaker (x ∷ xs) =
    elim (cases_Bool (p x)) [
      | inl passes ↦
          let too : q x ≡ true = weaker x passes in
          rw too (rw passes (ap (λ ys. x ∷ ys) (filter_within p q weaker xs)))
      | inr fails ↦
          elim (cases_Bool (q x)) [
            | inl too ↦ rw too (rw fails (filter_within p q weaker xs))
            | inr neither ↦ rw neither (rw fails (filter_within p q weaker xs))
          ]
    ]

pub list_all-drop : {X : Type 0} (p : X → Bool) (n : ℕ) (xs : List X) → list_all p xs ≡ true → list_all p (drop n xs) ≡ true
list_all-drop p zero xs all = all
list_all-drop p (suc n) [] all = refl
list_all-drop p (suc n) (x ∷ xs) all = list_all-drop p n xs (and_parts (p x) (list_all p xs) all).1

pub list_all-take : {X : Type 0} (p : X → Bool) (n : ℕ) (xs : List X) → list_all p xs ≡ true → list_all p (take n xs) ≡ true
list_all-take p zero xs all = refl
list_all-take p (suc n) [] all = refl
list_all-take p (suc n) (x ∷ xs) all =
    let both = and_parts (p x) (list_all p xs) all in
    and_from (p x) (list_all p (take n xs)) both.0 (list_all-take p n xs both.1)

pub list_all-weaker : {X : Type 0} (p q : X → Bool) → ((x : X) → p x ≡ true → q x ≡ true) → (xs : List X) → list_all p xs ≡ true → list_all q xs ≡ true
list_all-weaker p q weaker [] all = refl
list_all-weaker p q weaker (x ∷ xs) all =
    let both = and_parts (p x) (list_all p xs) all in
    and_from (q x) (list_all q xs) (weaker x both.0) (list_all-weaker p q weaker xs both.1)

-- ---- what a list contains
pub Contains-head : {X : Type 0} (x : X) (xs : List X) → Contains (x ∷ xs) x
Contains-head x xs = (zero, omega arith, refl)

pub Contains-cons : {X : Type 0} (x y : X) (xs : List X) → Contains xs y → Contains (x ∷ xs) y
Contains-cons x y xs = Contains-append_right (x ∷ []) xs y

pub Contains-cons_cases : {X : Type 0} (x y : X) (xs : List X) → Contains (x ∷ xs) y → (x ≡ y) ⊎ Contains xs y
Contains-cons_cases x y xs (zero, less, is) = inl is
Contains-cons_cases x y xs (suc k, less, is) = inr (k, omega arith, is)

pub All-from_contains : {X : Type 0} (P : X → Type 0) (xs : List X) → ((x : X) → Contains xs x → P x) → All P xs
All-from_contains P [] each = All-nil P
All-from_contains P (x ∷ xs) each =
    All-cons P x xs (each x (Contains-head x xs)) (All-from_contains P xs (λ y within. each y (Contains-cons x y xs within)))

pub Contains-filter : {X : Type 0} (p : X → Bool) (xs : List X) (x : X) → Contains xs x → p x ≡ true → Contains (filter p xs) x
Contains-filter p [] x (k, less, is) passes = absurd (omega arith)
Contains-filter p (y ∷ xs) x within passes =
    elim (Contains-cons_cases y x xs within) [
      | inl same ↦
          let too : p y ≡ true = ap p same ∙ passes in
          rw too (subst (λ z. Contains (y ∷ filter p xs) z) same (Contains-head y (filter p xs)))
      | inr rest ↦
          elim (cases_Bool (p y)) [
            | inl too ↦ rw too (Contains-cons y x (filter p xs) (Contains-filter p xs x rest passes))
            | inr fails ↦ rw fails (Contains-filter p xs x rest passes)
          ]
    ]

pub Contains-from_filter : {X : Type 0} (p : X → Bool) (xs : List X) (x : X) → Contains (filter p xs) x → Contains xs x × (p x ≡ true)
Contains-from_filter p [] x (k, less, is) = absurd (omega arith)
Contains-from_filter p (y ∷ xs) x within =
    elim (cases_Bool (p y)) [
      | inl passes ↦
          let either = Contains-cons_cases y x (filter p xs) (rw passes at within) in
          elim either [
            | inl same ↦ (subst (λ z. Contains (y ∷ xs) z) same (Contains-head y xs), ap p (sym same) ∙ passes)
            | inr rest ↦ let both = Contains-from_filter p xs x rest in (Contains-cons y x xs both.0, both.1)
          ]
      | inr fails ↦ let both = Contains-from_filter p xs x (rw fails at within) in (Contains-cons y x xs both.0, both.1)
    ]

pub Contains-flat_map : {X Y : Type 0} (f : X → List Y) (xs : List X) (x : X) (y : Y) → Contains xs x → Contains (f x) y → Contains (flat_map f xs) y
Contains-flat_map f [] x y (k, less, is) inside = absurd (omega arith)
Contains-flat_map f (z ∷ xs) x y within inside =
    elim (Contains-cons_cases z x xs within) [
      | inl same ↦ Contains-append_left (f z) (flat_map f xs) y (subst (λ w. Contains (f w) y) (sym same) inside)
      | inr rest ↦ Contains-append_right (f z) (flat_map f xs) y (Contains-flat_map f xs x y rest inside)
    ]

pub record Piece {X Y : Type 0} (f : X → List Y) (xs : List X) (y : Y) : Type 0 where
  pub of : X
  pub within : Contains xs of
  pub inside : Contains (f of) y

pub Contains-from_flat_map : {X Y : Type 0} (f : X → List Y) (xs : List X) (y : Y) → Contains (flat_map f xs) y → Piece f xs y
Contains-from_flat_map f [] y (k, less, is) = absurd (omega arith)
Contains-from_flat_map f (x ∷ xs) y within =
    elim (Contains-append_cases (f x) (flat_map f xs) y within) [
      | inl here ↦ record { of = x; within = Contains-head x xs; inside = here }
      | inr later ↦
          let piece = Contains-from_flat_map f xs y later in
          record { of = piece.of; within = Contains-cons x piece.of xs piece.within; inside = piece.inside }
    ]

cases_first : (a x : ℕ) → a ≤ x → (a ≡ x) ⊎ (a < x)
cases_first a x low = elim (cases_lt a x) [ inl less ↦ inr less | inr more ↦ inl (omega arith) ]

pub Contains-range_with_len : (a n x : ℕ) → a ≤ x → x < a + n → Contains (range_with_len a n) x
Contains-range_with_len a zero x low high = absurd (omega arith)
Contains-range_with_len a (suc n) x low high =
    elim (cases_first a x low) [
      | inl same ↦ subst (λ z. Contains (a ∷ range_with_len (a + 1) n) z) same (Contains-head a (range_with_len (a + 1) n))
      | inr above ↦ Contains-cons a x (range_with_len (a + 1) n) (Contains-range_with_len (a + 1) n x (omega arith) (omega arith))
    ]

-- ---- the elements that pass, where they are known
pub record OnlyOne {X : Type 0} (p : X → Bool) (xs : List X) (x : X) : Type 0 where
  pub within : Contains xs x
  pub passes : p x ≡ true
  pub only : (y : X) → Contains xs y → p y ≡ true → y ≡ x

pub filter_one : {X : Type 0} (p : X → Bool) (xs : List X) (x : X) → Distinct xs → OnlyOne p xs x → filter p xs ≡ x ∷ []
filter_one p [] x apart one = absurd (let none : Contains [] x = one.within in let less : none.0 < 0 = none.1 in omega arith)
filter_one p (y ∷ xs) x apart one =
    elim (cases_Bool (p y)) [
      | inl passes ↦
          let same : y ≡ x = one.only y (Contains-head y xs) passes in
          let none : filter p xs ≡ [] =
          filter_none p xs
          (All-from_contains (λ z. p z ≡ false) xs
          (λ z within.
          elim (cases_Bool (p z)) [
            | inl too ↦
                let equal : y ≡ z = same ∙ sym (one.only z (Contains-cons y z xs within) too) in
                absurd (All-contains (λ w. y ≢ w) xs z (Distinct-head y xs apart) within equal)
            | inr fails ↦ fails
          ])) in
          rw passes (ap (λ zs. y ∷ zs) none ∙ ap (λ z. z ∷ []) same)
      | inr fails ↦
          let rest : OnlyOne p xs x =
          record {
            within =
                elim (Contains-cons_cases y x xs one.within) [
                  | inl same ↦ absurd (false≢true (sym fails ∙ (ap p same ∙ one.passes)))
                  | inr later ↦ later
                ];
            passes = one.passes;
            only = λ z within. one.only z (Contains-cons y z xs within);
          } in
          rw fails (filter_one p xs x (Distinct-tail y xs apart) rest)
    ]
