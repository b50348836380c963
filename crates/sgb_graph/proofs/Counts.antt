-- Lemmas on how often a number stands in a list, and how often fields name an arc.
use Rattle.std.proofs.Common.{◌≡◌, ◌≢◌, ◌<◌, ◌≤◌, ◌+◌, ℕ, zero, suc, List, [], ◌∷◌, length, get_or, take, drop, All, true, false, refl, sym, ap, subst, ◌∙◌, arith, cond, ◌==◌, inl, inr}
use Rattle.std.specs.List.{sum_by, list_any}
use Rattle.std.proofs.lemmas.List.{get_or-take, get_or-drop, length-take, length-drop}
use Rattle.std.proofs.lemmas.List.Sums.{sum_by-cons, sum_by-take-drop, get_or-le-sum_by, sum_by-le}
use Rattle.std.proofs.lemmas.Bool.{cases_Bool, eq-eqb, ne_eqb, eqb-true, eqb-false, cases_eq, cases_lt}
use Rattle.sgb_graph.specs.Graph.{occurrences}

-- one more element
pub occurs_yes : (k j : ℕ) (ks : List ℕ) → j ≡ k → occurrences k (j ∷ ks) ≡ 1 + occurrences k ks
occurs_yes k j ks same = sum_by-cons (λ x. cond (x == k) 1 0) j ks ∙ ap (λ b. cond b 1 0 + occurrences k ks) (eq-eqb j k same)

pub occurs_no : (k j : ℕ) (ks : List ℕ) → j ≢ k → occurrences k (j ∷ ks) ≡ occurrences k ks
occurs_no k j ks other =
    let s : occurrences k (j ∷ ks) ≡ 0 + occurrences k ks = sum_by-cons (λ x. cond (x == k) 1 0) j ks ∙ ap (λ b. cond b 1 0 + occurrences k ks) (ne_eqb j k other) in
    omega arith

pub occurs_more : (k j : ℕ) (ks : List ℕ) → occurrences k ks ≤ occurrences k (j ∷ ks)
occurs_more k j ks = omega (arith, sum_by-cons (λ x. cond (x == k) 1 0) j ks)

pub any_none : (k : ℕ) (ks : List ℕ) → occurrences k ks ≡ 0 → list_any (λ j. j == k) ks ≡ false
any_none k [] h = refl
any_none k (j ∷ ks) h =
    elim (cases_Bool (j == k)) [
      | inl e ↦ absurd (omega (arith, occurs_yes k j ks (eqb-true j k e)))
      | inr e ↦ rw e (any_none k ks (omega (arith, occurs_no k j ks (eqb-false j k e))))
    ]

pub any_some : (k : ℕ) (ks : List ℕ) → 0 < occurrences k ks → list_any (λ j. j == k) ks ≡ true
any_some k [] h = absurd (omega arith)
any_some k (j ∷ ks) h =
    elim (cases_Bool (j == k)) [
      | inl e ↦ rw e refl
      | inr e ↦ rw e (any_some k ks (omega (arith, occurs_no k j ks (eqb-false j k e))))
    ]

-- an element of the list occurs
pub occurs_at : (ks : List ℕ) (i d : ℕ) → i < length ks → 0 < occurrences (get_or ks i d) ks
occurs_at [] i d h = absurd (omega arith)
occurs_at (j ∷ ks) zero d h = omega (arith, occurs_yes j j ks refl)
occurs_at (j ∷ ks) (suc i) d h =
    let s = sum_by-cons (λ x. cond (x == get_or ks i d) 1 0) j ks in
    omega (arith, s, occurs_at ks i d (omega arith))

-- the list without the number
abbrev without : ℕ → List ℕ → List ℕ
without n [] = []
without n (j ∷ ks) = cond (j == n) (without n ks) (j ∷ without n ks)

occurs-without : (n k : ℕ) (ks : List ℕ) → k ≢ n → occurrences k (without n ks) ≡ occurrences k ks
occurs-without n k [] other = refl
occurs-without n k (j ∷ ks) other =
    elim (cases_Bool (j == n)) [
      | inl e ↦
          let ne : j ≢ k = λ same. other (sym same ∙ eqb-true j n e) in
          rw e (occurs-without n k ks other ∙ sym (occurs_no k j ks ne))
      | inr e ↦
          let s = sum_by-cons (λ x. cond (x == k) 1 0) j ks in
          let t = sum_by-cons (λ x. cond (x == k) 1 0) j (without n ks) in
          rw e (omega (arith, s, t, occurs-without n k ks other))
    ]

occurs-without_it : (n : ℕ) (ks : List ℕ) → occurrences n (without n ks) ≡ 0
occurs-without_it n [] = refl
occurs-without_it n (j ∷ ks) =
    elim (cases_Bool (j == n)) [
      | inl e ↦ rw e (occurs-without_it n ks)
      | inr e ↦ rw e (occurs_no n j (without n ks) (eqb-false j n e) ∙ occurs-without_it n ks)
    ]

length-without : (n : ℕ) (ks : List ℕ) → length ks ≡ occurrences n ks + length (without n ks)
length-without n [] = refl
length-without n (j ∷ ks) =
    elim (cases_Bool (j == n)) [
      | inl e ↦
          let w : length (without n (j ∷ ks)) ≡ length (without n ks) = ap (λ b. length (cond b (without n ks) (j ∷ without n ks))) e in
          omega (arith, w, length-without n ks, occurs_yes n j ks (eqb-true j n e))
      | inr e ↦
          let w : length (without n (j ∷ ks)) ≡ 1 + length (without n ks) = ap (λ b. length (cond b (without n ks) (j ∷ without n ks))) e ∙ omega arith in
          omega (arith, w, length-without n ks, occurs_no n j ks (eqb-false j n e))
    ]

-- numbers below n that do not repeat are at most n
pub few_numbers : (n : ℕ) (ks : List ℕ) → ((k : ℕ) → occurrences k ks ≤ 1) → ((k : ℕ) → n ≤ k → occurrences k ks ≡ 0) → length ks ≤ n
few_numbers zero [] once below = omega arith
few_numbers zero (k ∷ ks) once below = absurd (omega (arith, below k (omega arith), occurs_yes k k ks refl))
few_numbers (suc n) ks once below =
    let rest : length (without n ks) ≤ n =
    few_numbers n (without n ks)
    (λ k. elim (cases_eq k n) [
      | inl same ↦ omega (arith, ap (λ x. occurrences x (without n ks)) same, occurs-without_it n ks)
      | inr other ↦ omega (arith, occurs-without n k ks other, once k)
    ])
    (λ k h. elim (cases_eq k n) [
      | inl same ↦ ap (λ x. occurrences x (without n ks)) same ∙ occurs-without_it n ks
      | inr other ↦ occurs-without n k ks other ∙ below k (let ne : k ≢ n = other in omega arith)
    ]) in
    omega (arith, rest, length-without n ks, once n)

-- two places of a list add up to no more than the whole
pub sum_two : {X : Type 0} (f : X → ℕ) (xs : List X) (i j : ℕ) (d : X) → i < j → j < length xs → f (get_or xs i d) + f (get_or xs j d) ≤ sum_by f xs
sum_two {X} f xs i j d low high =
    let first : f (get_or (take j xs) i d) ≤ sum_by f (take j xs) =
    get_or-le-sum_by f (take j xs) i d (omega (arith, length-take {A = X})) in
    let second : f (get_or (drop j xs) 0 d) ≤ sum_by f (drop j xs) =
    get_or-le-sum_by f (drop j xs) 0 d (omega (arith, length-drop {A = X})) in
    let here : f (get_or xs i d) ≤ sum_by f (take j xs) = rw get_or-take at first in
    let there : f (get_or xs (j + 0) d) ≤ sum_by f (drop j xs) = rw (get_or-drop j xs 0 d) at second in
    let there' : f (get_or xs j d) ≤ sum_by f (drop j xs) = subst (λ n. f (get_or xs n d) ≤ sum_by f (drop j xs)) (omega arith) there in
    omega (arith, sum_by-take-drop f xs j)

-- a sum of zeros
pub sum_zero : {X : Type 0} (f : X → ℕ) (xs : List X) → ((k : ℕ) (d : X) → k < length xs → f (get_or xs k d) ≡ 0) → sum_by f xs ≡ 0
sum_zero f xs none =
    let all : All (λ x. f x ≤ 0) xs = λ k d h. omega (arith, none k d h) in
    omega (arith, sum_by-le f 0 xs all)

pub zero_of_sum : {X : Type 0} (f : X → ℕ) (xs : List X) (k : ℕ) (d : X) → sum_by f xs ≡ 0 → k < length xs → f (get_or xs k d) ≡ 0
zero_of_sum f xs k d none h = omega (arith, get_or-le-sum_by f xs k d h)

-- no number that stands once stands at two places
pub two_places : (ks : List ℕ) (i j : ℕ) → i < j → j < length ks → get_or ks i 0 ≡ get_or ks j 0 → occurrences (get_or ks i 0) ks ≤ 1 → ⊥
two_places ks i j low high same once =
    let k = get_or ks i 0 in
    let one : ℕ → ℕ = λ x. cond (x == k) 1 0 in
    let both : one (get_or ks i 0) + one (get_or ks j 0) ≤ occurrences k ks = sum_two one ks i j 0 low high in
    let first : one (get_or ks i 0) ≡ 1 = ap (λ b. cond b 1 0) (eq-eqb (get_or ks i 0) k refl) in
    let second : one (get_or ks j 0) ≡ 1 = ap (λ b. cond b 1 0) (eq-eqb (get_or ks j 0) k (sym same)) in
    omega (arith, both, first, second)

-- a sum that is not zero has a part that is not
pub sum_some : {X : Type 0} (f : X → ℕ) (xs : List X) (d : X) → 0 < sum_by f xs → (i : ℕ) × (i < length xs) × (0 < f (get_or xs i d))
sum_some f [] d h = absurd (omega arith)
sum_some f (x ∷ xs) d h =
    elim (cases_lt 0 (f x)) [
      | inl here ↦ (0, omega arith, here)
      | inr none ↦
          let r = sum_some f xs d (omega (arith, sum_by-cons f x xs)) in
          (suc r.0, omega (arith, r.1), r.2)
    ]
