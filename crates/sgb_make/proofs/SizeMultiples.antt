-- Lemmas on moves by multiples of the sizes: each leads off the board or nowhere else. So a ride ends.
use Rattle.std.proofs.Common.{◌≡◌, ◌<◌, ◌≤◌, ◌+◌, ◌*◌, ◌%◌, ℕ, zero, suc, ℤ, pos, negsuc, ◌+ℤ◌, ◌*ℤ◌, unsigned_abs, List, [], ◌∷◌, ◌++◌, length, get_or, map, take, Option, Some, None, Bool, true, false, All, ◌⊎◌, inl, inr, refl, sym, ap, ap₂, subst, ◌∙◌, arith}
use Rattle.std.specs.Int.{int_rem_euclid}
use Rattle.std.specs.Option.{option_map}
use Rattle.std.proofs.Math.Nat.{mul_assoc, mul_comm}
use Rattle.std.proofs.lemmas.Bool.{cases_Bool, eq-eqb}
use Rattle.std.proofs.lemmas.Int.{ints, int_rem_euclid_is, unsigned_abs-mul}
use Rattle.std.proofs.lemmas.List.{get_or_default}
use Rattle.std.proofs.lemmas.Nat.{mod-mul-add}
use Rattle.sgb_make.specs.declared.side.Side.{Side}
use Rattle.sgb_make.specs.Ride.{positions, place_of, moved, with_first, stop, unless_back, stop_number}
use Rattle.sgb_make.specs.Private.Rank.{cells, IsOn, IsSmall}
use Rattle.sgb_make.specs.Private.Signs.{parts_below, along_parts, along_vectors}
use Rattle.sgb_make.specs.Private.Still.{IsStillAt}
use Rattle.sgb_make.proofs.Links.{one_times}
use Rattle.sgb_make.proofs.Moves.{moved-none}
use Rattle.sgb_plan.proofs.Lists.{flat_map_none}
use Rattle.sgb_make.proofs.StillVectors.{moved-off, with_first_none, quiet_vectors}
use Rattle.sgb_make.proofs.Ranks.{length-positions, get_or-positions, unrank, unrank-on, rank-unrank}

low_rest : (x n q : ℕ) → x < n → (x + q * n) % n ≡ x
low_rest x n q on = ap (λ k. k % n) (let turned : x + q * n ≡ q * n + x = omega arith in turned) ∙ mod-mul-add q n x on

wrapped_still : (x n q : ℕ) (z : ℤ) → x < n → unsigned_abs z ≡ q * n → unsigned_abs (int_rem_euclid (pos x +ℤ z) (pos n)) ≡ x
wrapped_still x n q (pos b) on is = ap (λ k. (x + k) % n) is ∙ low_rest x n q on
wrapped_still x n q (negsuc b) on is =
    let same : suc b ≡ q * n = is in
    ap unsigned_abs (int_rem_euclid_is (pos x +ℤ negsuc b) (pos n) n q x (omega arith) refl (omega (arith, ints)))
    ∙ (ap (λ k. k % n) (let none : x ≡ x + 0 * n = omega arith in none) ∙ low_rest x n 0 on)

no_move : (z : ℤ) → unsigned_abs z ≡ 0 → z ≡ pos 0
no_move (pos b) is = ap pos is
no_move (negsuc b) is = absurd (let wrong : suc b ≡ 0 = is in omega arith)

closed_still : (a : Side) (x q : ℕ) (z : ℤ) → x < a.size → unsigned_abs z ≡ q * a.size → a.wraps ≡ false → (moved a x z ≡ None) ⊎ (moved a x z ≡ Some x)
closed_still a x zero z on is closed =
    let none : unsigned_abs z ≡ 0 = is ∙ omega arith in
    inr (ap (moved a x) (no_move z none) ∙ moved-none a x on)
closed_still a x (suc q) z on is closed =
    let more : suc q * a.size ≡ a.size + q * a.size = omega arith in
    inl (moved-off a x z closed on (omega (arith, is, more)))

-- a coordinate that moves by a multiple of its side's size leaves the side or comes back
pub moved-still : (a : Side) (x q : ℕ) (z : ℤ) → x < a.size → unsigned_abs z ≡ q * a.size → (moved a x z ≡ None) ⊎ (moved a x z ≡ Some x)
moved-still a x q z on is =
    elim (cases_Bool a.wraps) [
      | inl joined ↦ inr (rw joined (ap (λ k. Some k) (wrapped_still x a.size q z on is)))
      | inr closed ↦ closed_still a x q z on is closed
    ]

both_still : (o : Option ℕ) (q : Option (List ℕ)) (x : ℕ) (p : List ℕ) → (o ≡ None) ⊎ (o ≡ Some x) → (q ≡ None) ⊎ (q ≡ Some p) → (with_first o q ≡ None) ⊎ (with_first o q ≡ Some (x ∷ p))
both_still o q x p (inl off) rest = inl (ap (λ t. with_first t q) off)
both_still o q x p (inr here) (inl off) = inl (ap (with_first o) off ∙ with_first_none o)
both_still o q x p (inr here) (inr there) = inr (ap₂ with_first here there)

-- ---- vectors whose parts are multiples of the sizes
abbrev pub AreStill : List Side → List ℕ → Type 0
AreStill [] parts = Unit {0}
AreStill (a ∷ sides) [] = Unit {0}
AreStill (a ∷ sides) (n ∷ parts) = ((q : ℕ) × (n ≡ q * a.size)) × AreStill sides parts

stop-still : (sides : List Side) (v : List ℤ) (p : List ℕ) → AreStill sides (map unsigned_abs v) → IsOn sides p → (stop sides v p 1 ≡ None) ⊎ (stop sides v p 1 ≡ Some p)
unfolding stop
stop-still [] v [] still on = inr refl
stop-still [] v (x ∷ p) still on = absurd on
stop-still (a ∷ sides) [] p still on = inl refl
stop-still (a ∷ sides) (z ∷ v) [] still on = absurd on
stop-still (a ∷ sides) (z ∷ v) (x ∷ p) still on =
    both_still (moved a x (pos 1 *ℤ z)) (stop sides v p 1) x p
    (moved-still a x still.0.0 (pos 1 *ℤ z) on.0 (ap unsigned_abs (one_times z) ∙ still.0.1))
    (stop-still sides v p still.1 on.1)

still_or_back : {o : Option (List ℕ)} {p : List ℕ} {rides : Bool} → rides ≡ true → (o ≡ None) ⊎ (o ≡ Some p) → (o ≡ None) ⊎ ((rides ≡ true) × (o ≡ Some p))
still_or_back rider (inl off) = inl off
still_or_back rider (inr back) = inr (rider, back)

-- ---- what a test of the parts before `at` tells
times_one : (n m : ℕ) → m ≡ 1 → (q : ℕ) × (n ≡ q * m)
times_one n m one = (n, (let same : n * m ≡ n * 1 = ap (λ k. n * k) one in omega (arith, same)))

only_one : {m k : ℕ} {P : Type 0} → (m ≡ 1) ⊎ ((k < 0) × P) → m ≡ 1
only_one (inl one) = one
only_one {m} {k} (inr below) = absurd (omega (arith, below.0))

first_still : (n m at : ℕ) → (m ≡ 1) ⊎ ((0 < at) × ((q : ℕ) × (n ≡ q * m))) → (q : ℕ) × (n ≡ q * m)
first_still n m at (inl one) = times_one n m one
first_still n m at (inr times) = times.1

later_still : {m k at : ℕ} {P : Type 0} → (m ≡ 1) ⊎ ((suc k < suc at) × P) → (m ≡ 1) ⊎ ((k < at) × P)
later_still (inl one) = inl one
later_still {m} {k} {at} (inr times) = inr (omega (arith, times.0), times.1)

still_behind : (sides : List Side) (t : List ℕ) → ((k : ℕ) → k < length sides → (d : Side) → (get_or sides k d).size ≡ 1) → AreStill sides t
still_behind [] t ones = tt
still_behind (a ∷ sides) [] ones = tt
still_behind (a ∷ sides) (n ∷ t) ones = (times_one n a.size (ones 0 (omega arith) a), still_behind sides t (λ k below d. ones (suc k) (omega arith) d))

pub still_whole : (sides : List Side) (parts : List ℕ) (at : ℕ) (t : List ℕ) → at ≤ length parts → ((k : ℕ) → k < length sides → IsStillAt sides parts at k) → AreStill sides (take at parts ++ t)
still_whole [] parts at t long still = tt
still_whole (a ∷ sides) parts zero t long still = still_behind (a ∷ sides) t (λ k below d. only_one (still k below d))
still_whole (a ∷ sides) [] (suc at) t long still = absurd (omega arith)
still_whole (a ∷ sides) (n ∷ parts) (suc at) t long still =
    (first_still n a.size (suc at) (still 0 (omega arith) a), still_whole sides parts at t (omega arith) (λ k below d. later_still (still (suc k) (omega arith) d)))

pub still_parts : (sides : List Side) (rides : Bool) (most : ℕ) (parts : List ℕ) (at d left : ℕ) → rides ≡ true → at ≤ length parts → ((k : ℕ) → k < length sides → IsStillAt sides parts at k) → along_parts sides rides most (take at parts) d left ≡ []
unfolding along_parts
still_parts sides rides most parts at d left rider long still =
    flat_map_none (λ t. along_vectors sides rides (take at parts ++ t)) (parts_below most d left)
    (λ t. quiet_vectors sides rides (take at parts ++ t)
    (λ v is p on. still_or_back rider (stop-still sides v p (subst (AreStill sides) (sym is) (still_whole sides parts at t long still)) on)))

-- ---- a ride ends: as many steps as there are positions are a multiple of each size
multiple : (n c size rest z : ℕ) → n ≡ c * (size * rest) → n * z ≡ c * rest * z * size
multiple n c size rest z is =
    ap (λ k. k * z) is
    ∙ (ap (λ k. k * z) (sym (mul_assoc c size rest))
    ∙ (ap (λ k. k * rest * z) (mul_comm c size)
    ∙ (ap (λ k. k * z) (mul_assoc size c rest)
    ∙ (mul_assoc size (c * rest) z ∙ mul_comm size (c * rest * z)))))

stop-whole : (sides : List Side) (v : List ℤ) (p : List ℕ) (n c : ℕ) → n ≡ c * cells sides → IsOn sides p → (stop sides v p n ≡ None) ⊎ (stop sides v p n ≡ Some p)
unfolding stop cells
stop-whole [] v [] n c is on = inr refl
stop-whole [] v (x ∷ p) n c is on = absurd on
stop-whole (a ∷ sides) [] p n c is on = inl refl
stop-whole (a ∷ sides) (z ∷ v) [] n c is on = absurd on
stop-whole (a ∷ sides) (z ∷ v) (x ∷ p) n c is on =
    both_still (moved a x (pos n *ℤ z)) (stop sides v p n) x p
    (moved-still a x (c * cells sides * unsigned_abs z) (pos n *ℤ z) on.0 (unsigned_abs-mul (pos n) z ∙ multiple n c a.size (cells sides) (unsigned_abs z) is))
    (stop-whole sides v p n (c * a.size) (is ∙ sym (mul_assoc c a.size (cells sides))) on.1)

ends_then : (sides : List Side) (v : List ℤ) (p : List ℕ) (n : ℕ) → (stop sides v p n ≡ None) ⊎ (stop sides v p n ≡ Some p) → stop_number sides v true p n ≡ None
ends_then sides v p n (inl off) = ap (λ o. unless_back true (place_of sides p) (option_map (place_of sides) o)) off
ends_then sides v p n (inr back) =
    let here : ℕ = place_of sides p in
    ap (λ o. unless_back true here (option_map (place_of sides) o)) back ∙ (rw (eq-eqb here here refl) refl)

pub ride_ends : (sides : List Side) (v : List ℤ) → All (λ p. stop_number sides v true p (length (positions sides)) ≡ None) (positions sides)
ride_ends sides v i d below =
    let n : ℕ = length (positions sides) in
    let inside : i < cells sides = omega (arith, below, length-positions sides) in
    let p = unrank sides i in
    let on : IsOn sides p = unrank-on sides i inside in
    let here : get_or (positions sides) i d ≡ p = ap (λ k. get_or (positions sides) k d) (sym (rank-unrank sides i inside)) ∙ get_or-positions sides p d on in
    let once : n ≡ 1 * cells sides = length-positions sides ∙ omega arith in
    subst (λ q. stop_number sides v true q n ≡ None) (sym here) (ends_then sides v p n (stop-whole sides v p n 1 once on))

-- a side whose part was tested
pub still_at : (sides : List Side) (parts : List ℕ) (at k : ℕ) (e : Side) (known : Bool) → k < length sides → (known ≡ true → k < at) → ((get_or sides k e).size ≡ 1) ⊎ ((known ≡ true) × ((q : ℕ) × (get_or parts k 0 ≡ q * (get_or sides k e).size))) → IsStillAt sides parts at k
still_at sides parts at k e known below told tested d =
    let same : get_or sides k e ≡ get_or sides k d = get_or_default sides k e d below in
    elim tested [
      | inl one ↦ inl (ap (λ (s : Side). s.size) (sym same) ∙ one)
      | inr times ↦ inr (told times.0, (times.1.0, times.1.1 ∙ ap (λ (s : Side). times.1.0 * s.size) same))
    ]

pub positive_at : (sides : List Side) (k : ℕ) (d : Side) → k < length sides → IsSmall sides → 0 < (get_or sides k d).size
positive_at [] k d below small = absurd (omega arith)
positive_at (a ∷ sides) zero d below small = small.0
positive_at (a ∷ sides) (suc k) d below small = positive_at sides k d (omega arith) small.2
