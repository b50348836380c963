-- Lemmas on lists whose elements differ, and on the place of an element in one.
use Rattle.std.proofs.Common.{◌≡◌, ◌≢◌, ◌<◌, ◌+◌, ℕ, zero, suc, List, [], ◌∷◌, ◌++◌, length, get_or, map, Bool, true, false, All, inl, inr, refl, sym, ap, subst, ◌∙◌, arith}
use Rattle.std.specs.List.{flat_map, filter, position_or_len, range_with_len}
use Rattle.std.proofs.lemmas.Bool.{cases_Bool}
use Rattle.std.proofs.lemmas.List.{get_or-map, map-id, length-map}
use Rattle.std.proofs.lemmas.List.Elements.{All-nil, All-head, All-tail, All-append, All-map}
use Rattle.std.proofs.lemmas.List.FromFn.{get_or-range_with_len, length-range_with_len}
use Rattle.std.proofs.lemmas.List.Kept.{AllPairs-cons, AllPairs-filter}
use Rattle.std.proofs.lemmas.List.Sums.{position_or_len_is}
use Rattle.sgb_plan.specs.Distinct.{Distinct}

pub Distinct-nil : {X : Type 0} → Distinct {X = X} []
Distinct-nil i j d less below = omega arith

pub Distinct-cons : {X : Type 0} (x : X) (xs : List X) → All (λ y. x ≢ y) xs → Distinct xs → Distinct (x ∷ xs)
Distinct-cons x xs = AllPairs-cons (λ a b. a ≢ b) x xs

pub Distinct-head : {X : Type 0} (x : X) (xs : List X) → Distinct (x ∷ xs) → All (λ y. x ≢ y) xs
Distinct-head x xs apart k d below = apart zero (suc k) d (omega arith) (omega arith)

pub Distinct-tail : {X : Type 0} (x : X) (xs : List X) → Distinct (x ∷ xs) → Distinct xs
Distinct-tail x xs apart i j d less below = apart (suc i) (suc j) d (omega arith) (omega arith)

pub Distinct-append : {X : Type 0} (xs ys : List X) → Distinct xs → Distinct ys → All (λ x. All (λ y. x ≢ y) ys) xs → Distinct (xs ++ ys)
Distinct-append [] ys front back across = back
Distinct-append (x ∷ xs) ys front back across =
    Distinct-cons x (xs ++ ys)
    (All-append (λ y. x ≢ y) xs ys (Distinct-head x xs front) (All-head (λ a. All (λ y. a ≢ y) ys) x xs across))
    (Distinct-append xs ys (Distinct-tail x xs front) back (All-tail (λ a. All (λ y. a ≢ y) ys) x xs across))

pub Distinct-filter : {X : Type 0} (p : X → Bool) (xs : List X) → Distinct xs → Distinct (filter p xs)
Distinct-filter p xs = AllPairs-filter (λ a b. a ≢ b) p xs

pub Distinct-range_with_len : (a n : ℕ) → Distinct (range_with_len a n)
Distinct-range_with_len a n i j d less below same =
    let high : j < n = omega (arith, length-range_with_len a n) in
    let low : i < n = omega arith in
    omega (arith, get_or-range_with_len a n i d low, get_or-range_with_len a n j d high, same)

-- by a function that tells them apart
pub Distinct-map : {X Y : Type 0} (f : X → Y) (xs : List X) → ((x y : X) → f x ≡ f y → x ≡ y) → Distinct xs → Distinct (map f xs)
Distinct-map f [] tells apart = Distinct-nil
Distinct-map f (x ∷ xs) tells apart =
    Distinct-cons (f x) (map f xs)
    (All-map (λ z. f x ≢ z) f xs (λ k d below same. Distinct-head x xs apart k d below (tells x (get_or xs k d) same)))
    (Distinct-map f xs tells (Distinct-tail x xs apart))

-- ---- lists that are joined
pub All-flat_map : {X Y : Type 0} (Q : Y → Type 0) (f : X → List Y) (xs : List X) → All (λ x. All Q (f x)) xs → All Q (flat_map f xs)
All-flat_map Q f [] all = All-nil Q
All-flat_map Q f (x ∷ xs) all =
    All-append Q (f x) (flat_map f xs) (All-head (λ y. All Q (f y)) x xs all) (All-flat_map Q f xs (All-tail (λ y. All Q (f y)) x xs all))

-- where each piece is told from the others by a key that all its elements have, as their first coordinate
pub Distinct-flat_map : {X Y K : Type 0} (f : X → List Y) (key : Y → K) (name : X → K) (xs : List X) → Distinct (map name xs) → ((x : X) → All (λ y. key y ≡ name x) (f x)) → All (λ x. Distinct (f x)) xs → Distinct (flat_map f xs)
Distinct-flat_map f key name [] names keys pieces = Distinct-nil
Distinct-flat_map f key name (x ∷ xs) names keys pieces =
    let others : All (λ z. name x ≢ z) (map name xs) = Distinct-head (name x) (map name xs) names in
    Distinct-append (f x) (flat_map f xs)
    (All-head (λ y. Distinct (f y)) x xs pieces)
    (Distinct-flat_map f key name xs (Distinct-tail (name x) (map name xs) names) keys (All-tail (λ y. Distinct (f y)) x xs pieces))
    (λ i a in_piece.
    let one = get_or (f x) i a in
    All-flat_map (λ z. one ≢ z) f xs
    (λ j b in_list k c in_other same.
    let below : j < length (map name xs) = omega (arith, length-map xs name) in
    others j (name b) below
    (sym (keys x i a in_piece) ∙ (ap key same ∙ (keys (get_or xs j b) k c in_other ∙ sym (get_or-map name xs j b (name b) in_list))))))

-- the same, where the piece of a number has it for a key
pub Distinct-flat_map_range : {Y : Type 0} (f : ℕ → List Y) (key : Y → ℕ) (a n : ℕ) → ((x : ℕ) → All (λ y. key y ≡ x) (f x)) → ((x : ℕ) → Distinct (f x)) → Distinct (flat_map f (range_with_len a n))
Distinct-flat_map_range f key a n keys pieces =
    Distinct-flat_map f key (λ x. x) (range_with_len a n)
    (subst Distinct (sym (map-id (range_with_len a n))) (Distinct-range_with_len a n))
    keys
    (λ k d below. pieces (get_or (range_with_len a n) k d))

-- ---- places
-- an element stands where a test passes that it alone passes
pub position_at : {X : Type 0} (p : X → Bool) (xs : List X) (i : ℕ) (d : X) → Distinct xs → i < length xs → ((y : X) → p y ≡ true → y ≡ get_or xs i d) → p (get_or xs i d) ≡ true → position_or_len p xs ≡ i
position_at p xs i d apart below only passes =
    position_or_len_is p xs i d (omega arith)
    (λ k less.
    elim (cases_Bool (p (get_or xs k d))) [
      | inl yes_too ↦ absurd (apart k i d less below (only (get_or xs k d) yes_too))
      | inr fails ↦ fails
    ])
    (λ h. passes)

pub position_or_len-map : {X Y : Type 0} (p : Y → Bool) (f : X → Y) (xs : List X) → position_or_len p (map f xs) ≡ position_or_len (λ x. p (f x)) xs
position_or_len-map p f [] = refl
position_or_len-map p f (x ∷ xs) =
    elim (cases_Bool (p (f x))) [
      | inl passes ↦ rw passes refl
      | inr fails ↦ rw fails (ap (λ k. 1 + k) (position_or_len-map p f xs))
    ]

-- two tests that agree at each element of which P holds pass at the same place
pub position_agree : {X : Type 0} (p q : X → Bool) (P : X → Type 0) (xs : List X) → ((x : X) → P x → p x ≡ q x) → All P xs → position_or_len p xs ≡ position_or_len q xs
position_agree p q P [] agree all = refl
position_agree p q P (x ∷ xs) agree all =
    let same : p x ≡ q x = agree x (All-head P x xs all) in
    let rest : position_or_len p xs ≡ position_or_len q xs = position_agree p q P xs agree (All-tail P x xs all) in
    elim (cases_Bool (q x)) [
      | inl passes ↦ let too : p x ≡ true = same ∙ passes in rw (too, passes) refl
      | inr fails ↦ let too : p x ≡ false = same ∙ fails in rw (too, fails) (ap (λ k. 1 + k) rest)
    ]
