-- Lemmas on rides: a second step goes on from the first, and the rides by the links are those of the definition.
use Rattle.std.proofs.Common.{◌≡◌, ◌<◌, ◌+◌, ◌-◌, ◌*◌, ℕ, zero, suc, ℤ, pos, negsuc, ◌+ℤ◌, ◌*ℤ◌, List, [], ◌∷◌, length, get_or, Option, Some, None, Bool, if◌then◌else◌, refl, sym, ap, ap₂, subst, ◌∙◌, arith}
use Rattle.std.specs.List.{flat_map, range_with_len}
use Rattle.std.specs.Option.{option_map}
use Rattle.std.proofs.Math.IntN.{neg_ℤ, *ℤ-negsuc}
use Rattle.std.proofs.lemmas.Int.{ints}
use Rattle.sgb_graph.specs.Builder.{Insertion}
use Rattle.sgb_make.specs.declared.side.Side.{Side}
use Rattle.sgb_make.specs.Ride.{positions, place_of, moved, with_first, stop, unless_back, stop_number, ride_on, ride, steps_of, rides_along}
use Rattle.sgb_make.specs.Private.Link.{link_of, number_of, links, trip, trip_from, trips}
use Rattle.sgb_make.specs.Private.Rank.{cells, rank, IsOn}
use Rattle.sgb_make.proofs.Moves.{moved-below, moved-next, moved-none}
use Rattle.sgb_make.proofs.Ranks.{length-positions, get_or-positions, place_is, unrank, unrank-on, rank-unrank, flat_by_place}
use Rattle.sgb_make.proofs.Links.{length-links, link_at, one_times}

-- ---- what two options joined tell
first_is : (o : Option ℕ) (q : Option (List ℕ)) (p : List ℕ) → with_first o q ≡ Some p → (x : ℕ) × ((r : List ℕ) × ((o ≡ Some x) × (q ≡ Some r) × (p ≡ x ∷ r)))
first_is None q p is = absurd (let wrong : None ≡ Some p = is in cc)
first_is (Some x) None p is = absurd (let wrong : None ≡ Some p = is in cc)
first_is (Some x) (Some r) p is =
    let same : x ∷ r ≡ p = cc in
    (x, (r, (refl, refl, sym same)))

-- ---- one step more
times_back : (l a : ℕ) → pos l *ℤ negsuc a ≡ neg_ℤ (pos (l * suc a))
times_back l a = *ℤ-negsuc (pos l) a

no_times : (z : ℤ) → pos 0 *ℤ z ≡ pos 0
no_times z = omega (arith, ints)

suc_times : (l : ℕ) (z : ℤ) → pos (l + 1) *ℤ z ≡ pos l *ℤ z +ℤ z
suc_times l (pos a) = ap pos (let more : (l + 1) * a ≡ l * a + a = omega arith in more)
suc_times l (negsuc a) =
    let more : (l + 1) * suc a ≡ l * suc a + suc a = omega arith in
    times_back (l + 1) a ∙ (ap (λ m. neg_ℤ (pos m)) more ∙ (omega (arith, ints) ∙ ap (λ y. y +ℤ negsuc a) (sym (times_back l a))))

pub stop-on : (sides : List Side) (v : List ℤ) (p q : List ℕ) (l : ℕ) → IsOn sides p → stop sides v p l ≡ Some q → IsOn sides q
unfolding stop
stop-on [] v p [] l on is = tt
stop-on [] v p (y ∷ q) l on is = absurd (let same : Some [] ≡ Some (y ∷ q) = is in let wrong : [] ≡ y ∷ q = cc in cc)
stop-on (a ∷ sides) [] p q l on is = absurd (let wrong : None ≡ Some q = is in cc)
stop-on (a ∷ sides) (z ∷ v) [] q l on is = absurd on
stop-on (a ∷ sides) (z ∷ v) (x ∷ p) q l on is =
    let (y, (r, (first, rest, same))) = first_is (moved a x (pos l *ℤ z)) (stop sides v p l) q is in
    subst (IsOn (a ∷ sides)) (sym same) (moved-below a x (pos l *ℤ z) y on.0 first, stop-on sides v p r l on.1 rest)

pub stop-next : (sides : List Side) (v : List ℤ) (p q : List ℕ) (l : ℕ) → IsOn sides p → stop sides v p l ≡ Some q → stop sides v p (l + 1) ≡ stop sides v q 1
unfolding stop
stop-next [] v p q l on is = refl
stop-next (a ∷ sides) [] p q l on is = absurd (let wrong : None ≡ Some q = is in cc)
stop-next (a ∷ sides) (z ∷ v) [] q l on is = absurd on
stop-next (a ∷ sides) (z ∷ v) (x ∷ p) q l on is =
    let (y, (r, (first, rest, same))) = first_is (moved a x (pos l *ℤ z)) (stop sides v p l) q is in
    let one : moved a x (pos (l + 1) *ℤ z) ≡ moved a y (pos 1 *ℤ z) =
    ap (moved a x) (suc_times l z) ∙ (moved-next a x (pos l *ℤ z) z y on.0 first ∙ ap (moved a y) (sym (one_times z))) in
    ap₂ with_first one (stop-next sides v p r l on.1 rest) ∙ ap (λ t. stop (a ∷ sides) (z ∷ v) t 1) (sym same)

-- no step leads nowhere else
pub stop-none : (sides : List Side) (v : List ℤ) (p : List ℕ) → length v ≡ length sides → IsOn sides p → stop sides v p 0 ≡ Some p
unfolding stop
stop-none [] v [] same on = refl
stop-none [] v (x ∷ p) same on = absurd on
stop-none (a ∷ sides) [] p same on = absurd (omega arith)
stop-none (a ∷ sides) (z ∷ v) [] same on = absurd on
stop-none (a ∷ sides) (z ∷ v) (x ∷ p) same on =
    ap₂ with_first (ap (moved a x) (no_times z) ∙ moved-none a x on.0) (stop-none sides v p (omega arith) on.1)

-- the insertions of a ride from its step l on, and those by the links from the position of number `at`
abbrev ride_at : List Side → List ℤ → Bool → List ℕ → ℕ → ℕ → List Insertion
ride_at sides v rides p l k = ride (place_of sides p) (stop_number sides v rides p) (range_with_len l k)

abbrev trip_at : List Side → List ℤ → Bool → List ℕ → ℕ → ℕ → ℕ → List Insertion
trip_at sides v rides p at l k = trip (links sides v) rides (rank sides p) at (range_with_len l k)

step_is : (sides : List Side) (v : List ℤ) (rides : Bool) (p : List ℕ) (l k link : ℕ) (o : Option (List ℕ)) → IsOn sides p → stop sides v p l ≡ o → link ≡ link_of (option_map (rank sides) o) → ((r : List ℕ) → o ≡ Some r → ride_at sides v rides p (l + 1) k ≡ trip_at sides v rides p (rank sides r) (l + 1) k) → ride_on (place_of sides p) l (stop_number sides v rides p l) (ride_at sides v rides p (l + 1) k) ≡ ride_on (rank sides p) l (unless_back rides (rank sides p) (number_of link)) (trip_at sides v rides p (link - 1) (l + 1) k)
unfolding ride_on
step_is sides v rides p l k link None on is leads later =
    ap (λ t. ride_on (place_of sides p) l (unless_back rides (place_of sides p) (option_map (place_of sides) t)) (ride_at sides v rides p (l + 1) k)) is
    ∙ sym (ap (λ t. ride_on (rank sides p) l (unless_back rides (rank sides p) (number_of t)) (trip_at sides v rides p (t - 1) (l + 1) k)) leads)
step_is sides v rides p l k link (Some r) on is leads later =
    let there : IsOn sides r = stop-on sides v p r l on is in
    let es = ride_at sides v rides p (l + 1) k in
    let back : suc (rank sides r) - 1 ≡ rank sides r = omega arith in
    ap (λ t. ride_on (place_of sides p) l (unless_back rides (place_of sides p) (option_map (place_of sides) t)) es) is
    ∙ (ap (λ a. ride_on a l (unless_back rides a (Some (place_of sides r))) es) (place_is sides p on)
    ∙ (ap (λ b. ride_on (rank sides p) l (unless_back rides (rank sides p) (Some b)) es) (place_is sides r there)
    ∙ (ap (λ fs. ride_on (rank sides p) l (unless_back rides (rank sides p) (Some (rank sides r))) fs) (later r refl ∙ ap (λ at. trip_at sides v rides p at (l + 1) k) (sym back))
    ∙ sym (ap (λ t. ride_on (rank sides p) l (unless_back rides (rank sides p) (number_of t)) (trip_at sides v rides p (t - 1) (l + 1) k)) leads))))

-- a ride that has come to q goes on as the links lead from there
ride_is_trip : (sides : List Side) (v : List ℤ) (rides : Bool) (p q : List ℕ) (l k : ℕ) → length v ≡ length sides → IsOn sides p → IsOn sides q → stop sides v p l ≡ Some q → ride_at sides v rides p (l + 1) k ≡ trip_at sides v rides p (rank sides q) (l + 1) k
unfolding ride trip
ride_is_trip sides v rides p q l zero same on here is = refl
ride_is_trip sides v rides p q l (suc k) same on here is =
    let next = stop-next sides v p q l on is in
    step_is sides v rides p (l + 1) k (get_or (links sides v) (rank sides q) 0) (stop sides v p (l + 1)) on refl
    (link_at sides v q same here ∙ ap (λ t. link_of (option_map (rank sides) t)) (sym next))
    (λ r there. ride_is_trip sides v rides p r (l + 1) k same on (stop-on sides v p r (l + 1) on there) there)

from_is_trip : (sides : List Side) (v : List ℤ) (rides : Bool) (p : List ℕ) (n : ℕ) → length v ≡ length sides → IsOn sides p → n ≡ length (links sides v) → ride (place_of sides p) (stop_number sides v rides p) (steps_of rides n) ≡ trip_from (links sides v) rides (rank sides p)
from_is_trip sides v rides p n same on count =
    ride_is_trip sides v rides p p 0 (if rides then n else 1) same on on (stop-none sides v p same on)
    ∙ ap (λ m. trip (links sides v) rides (rank sides p) (rank sides p) (steps_of rides m)) count

pub rides_are_trips : (sides : List Side) (v : List ℤ) (rides : Bool) → length v ≡ length sides → rides_along sides rides v ≡ trips (links sides v) rides
unfolding rides_along trips
rides_are_trips sides v rides same =
    let n = length (positions sides) in
    let count : n ≡ length (links sides v) = length-positions sides ∙ sym (length-links sides v same) in
    let f = λ (p : List ℕ). ride (place_of sides p) (stop_number sides v rides p) (steps_of rides n) in
    flat_by_place f (trip_from (links sides v) rides) (positions sides) [] 0
    (λ i below.
    let inside : i < cells sides = omega (arith, below, length-positions sides) in
    let p = unrank sides i in
    let on : IsOn sides p = unrank-on sides i inside in
    let number : rank sides p ≡ i = rank-unrank sides i inside in
    let here : get_or (positions sides) i [] ≡ p = ap (λ k. get_or (positions sides) k []) (sym number) ∙ get_or-positions sides p [] on in
    ap f here ∙ (from_is_trip sides v rides p n same on count ∙ ap (trip_from (links sides v) rides) (number ∙ omega arith)))
    ∙ ap (λ m. flat_map (trip_from (links sides v) rides) (range_with_len 0 m)) count
