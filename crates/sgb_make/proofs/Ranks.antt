-- Lemmas on positions and their numbers.
use Rattle.std.proofs.Common.{◌≡◌, ◌<◌, ◌+◌, ◌*◌, ◌/◌, ◌%◌, ℕ, zero, suc, List, [], ◌∷◌, ◌++◌, length, get_or, map, take, nat_eq, true, refl, sym, ap, ap₂, ◌∙◌, arith}
use Rattle.std.specs.Cmp.Lexicographic.{pointwise, same_text}
use Rattle.std.specs.List.{flat_map, range_with_len}
use Rattle.std.proofs.lemmas.List.{get_or-map, length-append, length-map, length-take-le}
use Rattle.std.proofs.lemmas.Bool.{eq-eqb}
use Rattle.std.proofs.lemmas.List.Concat.{get_or-flat_map}
use Rattle.std.proofs.lemmas.List.Elements.{All-map}
use Rattle.std.proofs.lemmas.List.FromFn.{get_or-range_with_len, length-range_with_len}
use Rattle.std.proofs.lemmas.Nat.{mul-add-lt, div-add-mod', mod_below, div_below}
use Rattle.sgb_plan.specs.Distinct.{Distinct}
use Rattle.sgb_plan.proofs.Distincts.{Distinct-nil, Distinct-cons, Distinct-map, Distinct-flat_map_range, position_at}
use Rattle.sgb_make.specs.declared.side.Side.{Side}
use Rattle.sgb_make.specs.Choice.{choices}
use Rattle.sgb_make.specs.Ride.{along, positions, place_of}
use Rattle.sgb_make.specs.Private.Rank.{cells, rank, IsOn}

-- ---- joined lists whose pieces are equally long
pub length-pieces : {X A : Type 0} (f : X → List A) (n : ℕ) (xs : List X) → ((x : X) → length (f x) ≡ n) → length (flat_map f xs) ≡ length xs * n
length-pieces f n [] each = omega arith
length-pieces f n (x ∷ xs) each =
    omega (arith, length-append (f x) (flat_map f xs), each x, length-pieces f n xs each)

-- element r of piece x
pub get_or-pieces : {A : Type 0} (f : ℕ → List A) (n size x r : ℕ) (d : A) → ((y : ℕ) → length (f y) ≡ n) → x < size → r < n → get_or (flat_map f (range_with_len 0 size)) (x * n + r) d ≡ get_or (f x) r d
get_or-pieces f n size x r d each on low =
    let xs = range_with_len 0 size in
    let long : x < length xs = omega (arith, length-range_with_len 0 size) in
    let here : get_or xs x 0 ≡ x = get_or-range_with_len 0 size x 0 on ∙ omega arith in
    let few : length (take x xs) ≡ x = length-take-le x xs (omega arith) in
    let before : length (flat_map f (take x xs)) ≡ x * n = length-pieces f n (take x xs) each ∙ ap (λ k. k * n) few in
    let inside : r < length (f (get_or xs x 0)) = omega (arith, each (get_or xs x 0)) in
    ap (λ k. get_or (flat_map f xs) (k + r) d) (sym before)
    ∙ (get_or-flat_map f xs x r 0 d long inside ∙ ap (λ k. get_or (f k) r d) here)

-- ---- all positions, by their numbers
abbrev behind : List Side → ℕ → List (List ℕ)
behind sides x = map (λ p. x ∷ p) (positions sides)

pub length-positions : (sides : List Side) → length (positions sides) ≡ cells sides
unfolding choices cells
length-positions [] = refl
length-positions (a ∷ sides) =
    length-pieces (behind sides) (cells sides) (along a) (λ x. length-map (positions sides) (λ p. x ∷ p) ∙ length-positions sides)
    ∙ ap (λ k. k * cells sides) (length-range_with_len 0 a.size)

pub rank-below : (sides : List Side) (p : List ℕ) → IsOn sides p → rank sides p < cells sides
unfolding rank cells
rank-below [] [] on = omega arith
rank-below [] (x ∷ p) on = absurd on
rank-below (a ∷ sides) [] on = absurd on
rank-below (a ∷ sides) (x ∷ p) on =
    let low = rank-below sides p on.1 in
    omega (arith, mul-add-lt x (cells sides) (rank sides p) a.size on.0 low, low)

pub get_or-positions : (sides : List Side) (p d : List ℕ) → IsOn sides p → get_or (positions sides) (rank sides p) d ≡ p
unfolding choices rank
get_or-positions [] [] d on = refl
get_or-positions [] (x ∷ p) d on = absurd on
get_or-positions (a ∷ sides) [] d on = absurd on
get_or-positions (a ∷ sides) (x ∷ p) d on =
    let low : rank sides p < length (positions sides) = omega (arith, rank-below sides p on.1, length-positions sides) in
    get_or-pieces (behind sides) (cells sides) a.size x (rank sides p) d (λ y. length-map (positions sides) (λ q. y ∷ q) ∙ length-positions sides) on.0 (rank-below sides p on.1)
    ∙ (get_or-map (λ q. x ∷ q) (positions sides) (rank sides p) p d low ∙ ap (λ q. x ∷ q) (get_or-positions sides p p on.1))

same_behind : (x : ℕ) (p q : List ℕ) → x ∷ p ≡ x ∷ q → p ≡ q
same_behind x p q same = cc

Distinct-positions : (sides : List Side) → Distinct (positions sides)
unfolding choices
Distinct-positions [] = Distinct-cons [] [] (λ k d below. absurd (omega arith)) Distinct-nil
Distinct-positions (a ∷ sides) =
    Distinct-flat_map_range (behind sides) (λ p. get_or p 0 0) 0 a.size
    (λ x. All-map (λ p. get_or p 0 0 ≡ x) (λ p. x ∷ p) (positions sides) (λ k d below. refl))
    (λ x. Distinct-map (λ p. x ∷ p) (positions sides) (same_behind x) (Distinct-positions sides))

pointwise_self : (p : List ℕ) → pointwise nat_eq p p ≡ true
pointwise_self [] = refl
pointwise_self (x ∷ p) = rw (eq-eqb x x refl, pointwise_self p) refl

-- the place of a position is its rank
pub place_is : (sides : List Side) (p : List ℕ) → IsOn sides p → place_of sides p ≡ rank sides p
place_is sides p on =
    let here : get_or (positions sides) (rank sides p) p ≡ p = get_or-positions sides p p on in
    position_at (pointwise nat_eq p) (positions sides) (rank sides p) p (Distinct-positions sides)
    (omega (arith, rank-below sides p on, length-positions sides))
    (λ q same. sym (same_text p q (sym same)) ∙ sym here)
    (ap (pointwise nat_eq p) here ∙ pointwise_self p)

-- ---- the position of a number
pub unrank : List Side → ℕ → List ℕ
unrank [] i = []
unrank (a ∷ sides) i = i / cells sides ∷ unrank sides (i % cells sides)

positive_factor : (m n i : ℕ) → i < m * n → 0 < n
positive_factor m zero i below = absurd (omega arith)
positive_factor m (suc n) i below = omega arith

pub unrank-on : (sides : List Side) (i : ℕ) → i < cells sides → IsOn sides (unrank sides i)
unfolding cells unrank
unrank-on [] i below = tt
unrank-on (a ∷ sides) i below =
    let some : 0 < cells sides = positive_factor a.size (cells sides) i below in
    (div_below i (cells sides) a.size some below, unrank-on sides (i % cells sides) (mod_below i (cells sides) some))

pub rank-unrank : (sides : List Side) (i : ℕ) → i < cells sides → rank sides (unrank sides i) ≡ i
unfolding cells rank unrank
rank-unrank [] i below = omega arith
rank-unrank (a ∷ sides) i below =
    let some : 0 < cells sides = positive_factor a.size (cells sides) i below in
    ap (λ k. i / cells sides * cells sides + k) (rank-unrank sides (i % cells sides) (mod_below i (cells sides) some))
    ∙ div-add-mod' i (cells sides)

-- ---- a joined list by the places of its elements
pub flat_by_place : {X A : Type 0} (f : X → List A) (g : ℕ → List A) (xs : List X) (d : X) (s : ℕ) → ((i : ℕ) → i < length xs → f (get_or xs i d) ≡ g (s + i)) → flat_map f xs ≡ flat_map g (range_with_len s (length xs))
flat_by_place f g [] d s same = refl
flat_by_place f g (x ∷ xs) d s same =
    ap₂ (λ a b. a ++ b)
    (same 0 (omega arith) ∙ ap g (omega arith))
    (flat_by_place f g xs d (s + 1) (λ i below. same (suc i) (omega arith) ∙ ap g (omega arith)))
