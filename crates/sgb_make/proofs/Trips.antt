-- Lemmas on rides by a table of links: what is left of one while a loop makes it.
use Rattle.std.proofs.Common.{◌≡◌, ◌<◌, ◌≤◌, ◌+◌, ◌-◌, ◌==◌, ℕ, zero, suc, pos, List, [], ◌∷◌, ◌++◌, length, get_or, Bool, true, false, ◌&&◌, if◌then◌else◌, refl, sym, ap, subst, ◌∙◌, arith}
use Rattle.std.specs.List.{range_with_len}
use Rattle.sgb_graph.specs.declared.builder.Builder.{Builder}
use Rattle.sgb_graph.specs.declared.refusal.Refusal.{Refusal}
use Rattle.sgb_graph.specs.Graph.{n_of}
use Rattle.sgb_graph.specs.Builder.{Insertion, insertion, grown}
use Rattle.sgb_graph.proofs.InsertionRuns.{Left, RefusesInsertions, left_start, left_some, left_refused, left_end, left_as, left_n}
use Rattle.sgb_make.specs.Ride.{unless_back, ride_on}
use Rattle.sgb_make.specs.Private.Link.{number_of, trip, trip_from}

-- the insertions of the steps from l on, below `end`
abbrev pub trip_to : List ℕ → Bool → ℕ → ℕ → ℕ → ℕ → List Insertion
trip_to table rides from at l end = trip table rides from at (range_with_len l (end - l))

pub record TripLeft (a : Builder) (all : List Insertion) (b : Builder) (table : List ℕ) (rides : Bool) (from at l end : ℕ) : Type 0 where
  pub left : Left a all b (trip_to table rides from at l end)
  pub on : at < length table

one_more : (table : List ℕ) (rides : Bool) (from at l end : ℕ) → l < end → trip_to table rides from at l end ≡ ride_on from l (unless_back rides from (number_of (get_or table at 0))) (trip_to table rides from (get_or table at 0 - 1) (l + 1) end)
unfolding trip
one_more table rides from at l end h =
    let more : end - l ≡ suc (end - (l + 1)) = omega arith in
    ap (λ k. trip table rides from at (range_with_len l k)) more

ends : (rides : Bool) (from l link : ℕ) (later : List Insertion) → link ≡ 0 → ride_on from l (unless_back rides from (number_of link)) later ≡ []
unfolding ride_on
ends rides from l link later none = ap (λ k. ride_on from l (unless_back rides from (number_of k)) later) none

ends_back : (rides : Bool) (from l link : ℕ) (later : List Insertion) → (rides && ((link - 1) == from)) ≡ true → ride_on from l (unless_back rides from (number_of link)) later ≡ []
unfolding ride_on
ends_back rides from l zero later back = refl
ends_back rides from l (suc k) later back =
    let same : suc k - 1 ≡ k = omega arith in
    let is : (rides && (k == from)) ≡ true = subst (λ j. (rides && (j == from)) ≡ true) same back in
    rw is refl

goes_on : (rides : Bool) (from l link : ℕ) (later : List Insertion) → 0 < link → (rides && ((link - 1) == from)) ≡ false → ride_on from l (unless_back rides from (number_of link)) later ≡ insertion from (link - 1) (pos l) ∷ later
unfolding ride_on
goes_on rides from l zero later some on = absurd (omega (arith, some))
goes_on rides from l (suc k) later some on =
    let same : suc k - 1 ≡ k = omega arith in
    let is : (rides && (k == from)) ≡ false = subst (λ j. (rides && (j == from)) ≡ false) same on in
    rw is (ap (λ j. insertion from j (pos l) ∷ later) (sym same))

pub trip_start : (a : Builder) (table : List ℕ) (rides : Bool) (from end : ℕ) → end ≡ (if rides then length table else 1) + 1 → from < length table → TripLeft a (trip_from table rides from) a table rides from from 1 end
trip_start a table rides from end is on =
    let count : end - 1 ≡ (if rides then length table else 1) = omega arith in
    record {
      left = subst (λ k. Left a (trip_from table rides from) a (trip table rides from from (range_with_len 1 k))) (sym count) (left_start a (trip_from table rides from));
      on = on;
    }

pub trip_none : {a b : Builder} {all : List Insertion} {table : List ℕ} {rides : Bool} {from at l end : ℕ} → l < end → get_or table at 0 ≡ 0 → TripLeft a all b table rides from at l end → b ≡ grown a all
trip_none {table = table} {rides = rides} {from = from} {at = at} {l = l} {end = end} h none left =
    left_end (left_as left.left (one_more table rides from at l end h ∙ ends rides from l (get_or table at 0) _ none))

pub trip_back : {a b : Builder} {all : List Insertion} {table : List ℕ} {rides : Bool} {from at l end : ℕ} → l < end → (rides && ((get_or table at 0 - 1) == from)) ≡ true → TripLeft a all b table rides from at l end → b ≡ grown a all
trip_back {table = table} {rides = rides} {from = from} {at = at} {l = l} {end = end} h back left =
    left_end (left_as left.left (one_more table rides from at l end h ∙ ends_back rides from l (get_or table at 0) _ back))

next_is : {a b : Builder} {all : List Insertion} {table : List ℕ} {rides : Bool} {from at l end : ℕ} → l < end → 0 < get_or table at 0 → (rides && ((get_or table at 0 - 1) == from)) ≡ false → TripLeft a all b table rides from at l end → Left a all b ((insertion from (get_or table at 0 - 1) (pos l) ∷ []) ++ trip_to table rides from (get_or table at 0 - 1) (l + 1) end)
next_is {table = table} {rides = rides} {from = from} {at = at} {l = l} {end = end} h some on left =
    left_as left.left (one_more table rides from at l end h ∙ goes_on rides from l (get_or table at 0) _ some on)

pub trip_some : {a b c : Builder} {all : List Insertion} {table : List ℕ} {rides : Bool} {from at l end : ℕ} → l < end → 0 < get_or table at 0 → (rides && ((get_or table at 0 - 1) == from)) ≡ false → get_or table at 0 - 1 < length table → TripLeft a all b table rides from at l end → c ≡ grown b (insertion from (get_or table at 0 - 1) (pos l) ∷ []) → TripLeft a all c table rides from (get_or table at 0 - 1) (l + 1) end
trip_some {table = table} {rides = rides} {from = from} {at = at} {l = l} {end = end} h some on low left made =
    record { left = left_some _ _ (next_is h some on left) made; on = low }

pub trip_refused : {a b : Builder} {all : List Insertion} {table : List ℕ} {rides : Bool} {from at l end : ℕ} {e : Refusal} → l < end → 0 < get_or table at 0 → (rides && ((get_or table at 0 - 1) == from)) ≡ false → TripLeft a all b table rides from at l end → RefusesInsertions b (insertion from (get_or table at 0 - 1) (pos l) ∷ []) e → RefusesInsertions a all e
trip_refused h some on left refused = left_refused _ _ (next_is h some on left) refused

pub trip_end : {a b : Builder} {all : List Insertion} {table : List ℕ} {rides : Bool} {from at l end : ℕ} → end ≤ l → TripLeft a all b table rides from at l end → b ≡ grown a all
unfolding trip
trip_end {table = table} {rides = rides} {from = from} {at = at} {l = l} {end = end} h left =
    let none : end - l ≡ 0 = omega arith in
    left_end (left_as left.left (ap (λ k. trip table rides from at (range_with_len l k)) none))

pub trip_n : {a b : Builder} {all : List Insertion} {table : List ℕ} {rides : Bool} {from at l end : ℕ} → TripLeft a all b table rides from at l end → n_of b.graph ≡ n_of a.graph
trip_n left = left_n left.left
