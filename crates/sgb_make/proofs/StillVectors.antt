-- Lemmas on vectors that make no insertion: from each position the first step leads off the board, or a rider back.
use Rattle.std.proofs.Common.{◌≡◌, ◌<◌, ◌≤◌, ◌+◌, ◌-◌, ◌*◌, ℕ, zero, suc, ℤ, pos, negsuc, ◌+ℤ◌, ◌*ℤ◌, unsigned_abs, int_le, int_lt, List, [], ◌∷◌, ◌++◌, length, get_or, take, map, Option, Some, None, Bool, true, false, ◌&&◌, ◌⊎◌, inl, inr, if◌then◌else◌, refl, sym, ap, ap₂, ◌∙◌, arith}
use Rattle.std.specs.List.{flat_map, range_with_len}
use Rattle.std.specs.Option.{option_map}
use Rattle.std.proofs.lemmas.Bool.{cases_Bool, eq-eqb, le-ltb}
use Rattle.std.proofs.lemmas.Int.{ints}
use Rattle.std.proofs.lemmas.List.Folds.{flat_map-map}
use Rattle.std.proofs.lemmas.Grind.{flat_map-append}
use Rattle.sgb_graph.specs.Builder.{Insertion}
use Rattle.sgb_make.specs.declared.side.Side.{Side}
use Rattle.sgb_make.specs.Ride.{positions, place_of, moved, with_first, stop, unless_back, stop_number, ride_on, ride, steps_of, rides_along}
use Rattle.sgb_make.specs.Vector.{vectors_of}
use Rattle.sgb_make.specs.Private.Rank.{cells, IsOn}
use Rattle.sgb_make.specs.Private.Signs.{signings, along_vectors}
use Rattle.sgb_make.proofs.Links.{one_times}
use Rattle.std.proofs.lemmas.List.{length-take-le}
use Rattle.sgb_plan.proofs.Lists.{flat_map_none}
use Rattle.sgb_make.proofs.Parts.{IsIdle}
use Rattle.sgb_make.proofs.Ranks.{length-positions, get_or-positions, unrank, unrank-on, rank-unrank, flat_by_place}
use Rattle.sgb_make.proofs.Signs.{signings_forward}

-- the first step leads off the board, or a rider back
abbrev pub IsQuiet : List Side → Bool → List ℤ → Type 0
IsQuiet sides rides v = (p : List ℕ) → IsOn sides p → (stop sides v p 1 ≡ None) ⊎ ((rides ≡ true) × (stop sides v p 1 ≡ Some p))

no_ride : (from m : ℕ) (stops : ℕ → Option ℕ) → stops 1 ≡ None → ride from stops (range_with_len 1 m) ≡ []
unfolding ride ride_on
no_ride from zero stops none = refl
no_ride from (suc m) stops none = ap (λ o. ride_on from 1 o (ride from stops (range_with_len 2 m))) none

no_stop : (sides : List Side) (rides : Bool) (v : List ℤ) (p : List ℕ) → (stop sides v p 1 ≡ None) ⊎ ((rides ≡ true) × (stop sides v p 1 ≡ Some p)) → stop_number sides v rides p 1 ≡ None
no_stop sides rides v p (inl off) = ap (λ o. unless_back rides (place_of sides p) (option_map (place_of sides) o)) off
no_stop sides rides v p (inr back) =
    let n : ℕ = place_of sides p in
    ap₂ (λ r o. unless_back r n (option_map (place_of sides) o)) back.0 back.1 ∙ (rw (eq-eqb n n refl) refl)

pub quiet_rides : (sides : List Side) (rides : Bool) (v : List ℤ) → IsQuiet sides rides v → rides_along sides rides v ≡ []
unfolding rides_along
quiet_rides sides rides v quiet =
    let n = length (positions sides) in
    let f = λ (p : List ℕ). ride (place_of sides p) (stop_number sides v rides p) (steps_of rides n) in
    flat_by_place f (λ i. []) (positions sides) [] 0
    (λ i below.
    let inside : i < cells sides = omega (arith, below, length-positions sides) in
    let p = unrank sides i in
    let on : IsOn sides p = unrank-on sides i inside in
    let here : get_or (positions sides) i [] ≡ p = ap (λ k. get_or (positions sides) k []) (sym (rank-unrank sides i inside)) ∙ get_or-positions sides p [] on in
    ap f here ∙ no_ride (place_of sides p) (if rides then n else 1) (stop_number sides v rides p) (no_stop sides rides v p (quiet p on)))
    ∙ flat_map_none (λ i. []) (range_with_len 0 n) (λ i. refl)

-- ---- all vectors of the same absolute values
quiet_signings : (parts : List ℕ) (seen : Bool) (f : List ℤ → List Insertion) → ((v : List ℤ) → map unsigned_abs v ≡ parts → f v ≡ []) → flat_map f (signings parts seen) ≡ []
unfolding signings
quiet_signings [] seen f none = ap (λ t. t ++ []) (none [] refl)
quiet_signings (zero ∷ parts) seen f none =
    flat_map-map f (λ v. pos 0 ∷ v) (signings parts seen)
    ∙ quiet_signings parts seen (λ v. f (pos 0 ∷ v)) (λ v is. none (pos 0 ∷ v) (ap (λ t. zero ∷ t) is))
quiet_signings (suc a ∷ parts) seen f none =
    let ws = signings parts true in
    let plus : flat_map f (map (λ v. pos (suc a) ∷ v) ws) ≡ [] =
    flat_map-map f (λ v. pos (suc a) ∷ v) ws ∙ quiet_signings parts true (λ v. f (pos (suc a) ∷ v)) (λ v is. none (pos (suc a) ∷ v) (ap (λ t. suc a ∷ t) is)) in
    let minus : flat_map f (map (λ v. negsuc a ∷ v) ws) ≡ [] =
    flat_map-map f (λ v. negsuc a ∷ v) ws ∙ quiet_signings parts true (λ v. f (negsuc a ∷ v)) (λ v is. none (negsuc a ∷ v) (ap (λ t. suc a ∷ t) is)) in
    flat_map-append f (map (λ v. pos (suc a) ∷ v) ws) (if seen then map (λ v. negsuc a ∷ v) ws else [])
    ∙ ap₂ (λ s t. s ++ t) plus
    (elim (cases_Bool seen) [
      | inl both ↦ ap (λ b. flat_map f (if b then map (λ v. negsuc a ∷ v) ws else [])) both ∙ minus
      | inr first ↦ ap (λ b. flat_map f (if b then map (λ v. negsuc a ∷ v) ws else [])) first
    ])

pub quiet_vectors : (sides : List Side) (rides : Bool) (parts : List ℕ) → ((v : List ℤ) → map unsigned_abs v ≡ parts → IsQuiet sides rides v) → along_vectors sides rides parts ≡ []
unfolding vectors_of
quiet_vectors sides rides parts quiet =
    ap (flat_map (rides_along sides rides)) (signings_forward parts)
    ∙ quiet_signings parts false (rides_along sides rides) (λ v is. quiet_rides sides rides v (quiet v is))

-- ---- a part that leads off its side from each coordinate
and_no : (p q : Bool) → q ≡ false → (p && q) ≡ false
and_no true q fails = fails
and_no false q fails = refl

off_side : (x n : ℕ) (z : ℤ) → x < n → n ≤ unsigned_abs z → (int_le (pos 0) (pos x +ℤ z) && int_lt (pos x +ℤ z) (pos n)) ≡ false
off_side x n (pos b) on far = and_no (int_le (pos 0) (pos (x + b))) (int_lt (pos (x + b)) (pos n)) (le-ltb (x + b) n (omega arith))
off_side x n (negsuc b) on far =
    let is : pos x +ℤ negsuc b ≡ negsuc (b - x) = omega (arith, ints) in
    ap (λ y. int_le (pos 0) y && int_lt y (pos n)) is

pub moved-off : (a : Side) (x : ℕ) (z : ℤ) → a.wraps ≡ false → x < a.size → a.size ≤ unsigned_abs z → moved a x z ≡ None
moved-off a x z closed on far = rw (closed, off_side x a.size z on far) refl

pub with_first_none : (o : Option ℕ) → with_first o None ≡ None
with_first_none None = refl
with_first_none (Some x) = refl

same_first : {x y : ℕ} {xs ys : List ℕ} → x ∷ xs ≡ y ∷ ys → x ≡ y
same_first same = cc

same_rest : {x y : ℕ} {xs ys : List ℕ} → x ∷ xs ≡ y ∷ ys → xs ≡ ys
same_rest same = cc

stop-off : (sides : List Side) (begun : List ℕ) (a : ℕ) (t : List ℕ) (v : List ℤ) (p : List ℕ) (d : Side) → length begun < length sides → map unsigned_abs v ≡ begun ++ a ∷ t → (get_or sides (length begun) d).wraps ≡ false → (get_or sides (length begun) d).size ≤ a → IsOn sides p → stop sides v p 1 ≡ None
unfolding stop
stop-off [] begun a t v p d below is closed far on = absurd (omega arith)
stop-off (s ∷ sides) begun a t [] p d below is closed far on = refl
stop-off (s ∷ sides) begun a t (z ∷ v) [] d below is closed far on = refl
stop-off (s ∷ sides) [] a t (z ∷ v) (x ∷ p) d below is closed far on =
    let here : unsigned_abs z ≡ a = same_first is in
    ap (λ o. with_first o (stop sides v p 1)) (ap (moved s x) (one_times z) ∙ moved-off s x z closed on.0 (omega arith))
stop-off (s ∷ sides) (b ∷ begun) a t (z ∷ v) (x ∷ p) d below is closed far on =
    ap (with_first (moved s x (pos 1 *ℤ z))) (stop-off sides begun a t v p d (omega arith) (same_rest is) closed far on.1)
    ∙ with_first_none (moved s x (pos 1 *ℤ z))

pub off_vectors : (sides : List Side) (rides : Bool) (begun : List ℕ) (a : ℕ) (d : Side) → length begun < length sides → (get_or sides (length begun) d).wraps ≡ false → (get_or sides (length begun) d).size ≤ a → (t : List ℕ) → along_vectors sides rides (begun ++ a ∷ t) ≡ []
off_vectors sides rides begun a d below closed far t =
    quiet_vectors sides rides (begun ++ a ∷ t) (λ v is p on. inl (stop-off sides begun a t v p d below is closed far on))

-- the parts that a vector cannot have along a side, or that make no insertion
pub idle_above : (sides : List Side) (rides : Bool) (parts : List ℕ) (at left end : ℕ) (side : Side) → at < length sides → at ≤ length parts → side ≡ get_or sides at side → ((a : ℕ) → end ≤ a → (left < a * a) ⊎ ((side.wraps ≡ false) × (side.size ≤ a))) → (a : ℕ) → end ≤ a → IsIdle sides rides (take at parts) left a
idle_above sides rides parts at left end side below long is all a above =
    elim (all a above) [
      | inl high ↦ inl high
      | inr off ↦
          let here : side ≡ get_or sides (length (take at parts)) side = is ∙ ap (λ k. get_or sides k side) (sym (length-take-le at parts long)) in
          inr (off_vectors sides rides (take at parts) a side (omega (arith, length-take-le at parts long)) (ap (λ (s : Side). s.wraps) (sym here) ∙ off.0) (omega (arith, off.1, ap (λ (s : Side). s.size) here)))
    ]
