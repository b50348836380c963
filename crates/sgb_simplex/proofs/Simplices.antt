-- Lemmas on points: by their first coordinate, how many they are, and where one stands.
use Rattle.std.proofs.Common.{◌≡◌, ◌<◌, ◌≤◌, ◌+◌, ◌-◌, ◌==◌, ℕ, zero, suc, List, [], ◌∷◌, length, get_or, map, min, false, All, inl, inr, refl, sym, ap, subst, ◌∙◌, arith}
use Rattle.std.specs.Cmp.Lexicographic.{pointwise}
use Rattle.std.specs.List.{flat_map, filter, sum, slice_index, range_with_len}
use Rattle.std.proofs.lemmas.Bool.{eq-eqb, ne_eqb}
use Rattle.std.proofs.lemmas.Bool.Decides.{eqb_tells}
use Rattle.std.proofs.lemmas.List.{length-map}
use Rattle.std.proofs.lemmas.List.Elements.{All-nil, All-cons, All-map, All-weaker, filter_agree}
use Rattle.std.proofs.lemmas.List.FromFn.{length-range_with_len, get_or-range_with_len}
use Rattle.std.proofs.lemmas.List.Sums.{sum_by-cons}
use Rattle.sgb_plan.proofs.Distincts.{All-flat_map, position_or_len-map, position_agree}
use Rattle.sgb_plan.proofs.Lists.{filter_none, filter-map, filter-flat_map}
use Rattle.sgb_simplex.specs.Points.{tuples, points, place_of}
use Rattle.sgb_simplex.specs.Private.Counts.{sum_from, counted, counted_below, IsPoint}
use Rattle.sgb_simplex.proofs.Runs.{agree, empty, cut_above, cut_below, length_in, position_in}
use Rattle.sgb_simplex.proofs.Sums.{sum_same, sum_more, sum_part, sum_back, sum_limited}

-- the points that begin with x
abbrev pub piece : ℕ → List ℕ → ℕ → List (List ℕ)
piece s bs x = map (λ t. x ∷ t) (points (s - x) bs)

pub sum_cons : (x : ℕ) (t : List ℕ) → sum (x ∷ t) ≡ x + sum t
sum_cons x t = sum_by-cons (λ y. y) x t

has_sum : (s x : ℕ) (t : List ℕ) → x ≤ s → (sum (x ∷ t) == s) ≡ (sum t == s - x)
has_sum s x t less =
    elim (eqb_tells (sum t) (s - x)) [
      | inl is ↦ eq-eqb (sum (x ∷ t)) s (omega (arith, is.1, sum_cons x t)) ∙ sym is.0
      | inr other ↦ ne_eqb (sum (x ∷ t)) s (λ same. other.1 (omega (arith, same, sum_cons x t))) ∙ sym other.0
    ]

piece_is : (s x : ℕ) (bs : List ℕ) → x ≤ s → filter (λ t. sum t == s) (map (λ t. x ∷ t) (tuples (map (λ b. b + 1) bs))) ≡ piece s bs x
unfolding points
piece_is s x bs less =
    filter-map (λ t. sum t == s) (λ t. x ∷ t) (tuples (map (λ b. b + 1) bs))
    ∙ ap (map (λ t. x ∷ t)) (filter_agree (λ t. sum (x ∷ t) == s) (λ t. sum t == s - x) (λ t. has_sum s x t less) (tuples (map (λ b. b + 1) bs)))

piece_none : (s x : ℕ) (ts : List (List ℕ)) → s < x → filter (λ t. sum t == s) (map (λ t. x ∷ t) ts) ≡ []
piece_none s x ts more =
    filter-map (λ t. sum t == s) (λ t. x ∷ t) ts
    ∙ ap (map (λ t. x ∷ t)) (filter_none (λ t. sum (x ∷ t) == s) ts (λ k d below. ne_eqb (sum (x ∷ get_or ts k d)) s (λ same. omega (arith, more, same, sum_cons x (get_or ts k d)))))

pub points_nil : points 0 [] ≡ [] ∷ []
unfolding points tuples
points_nil = refl

pub points_none_nil : (s : ℕ) → 0 < s → points s [] ≡ []
unfolding points tuples
points_none_nil s some = let no : (0 == s) ≡ false = ne_eqb 0 s (λ same. omega (arith, some, same)) in rw no refl

pub points_cons : (s b : ℕ) (bs : List ℕ) → points s (b ∷ bs) ≡ flat_map (piece s bs) (range_with_len 0 (min b s + 1))
unfolding points tuples
points_cons s b bs =
    let all : ℕ → List (List ℕ) = λ x. map (λ t. x ∷ t) (tuples (map (λ c. c + 1) bs)) in
    let each : ℕ → List (List ℕ) = λ x. filter (λ t. sum t == s) (all x) in
    filter-flat_map (λ t. sum t == s) all (range_with_len 0 (b + 1))
    ∙ (cut_above each 0 (b + 1) (min b s + 1) (omega arith) (λ x low high. piece_none s x (tuples (map (λ c. c + 1) bs)) (omega (arith, low, high)))
    ∙ agree each (piece s bs) 0 (min b s + 1) (λ x low high. piece_is s x bs (omega (arith, high))))

pub points_none : (s : ℕ) (bs : List ℕ) → sum bs < s → points s bs ≡ []
points_none s [] more = points_none_nil s more
points_none s (b ∷ bs) more =
    points_cons s b bs
    ∙ empty (piece s bs) 0 (min b s + 1) (λ x low high. ap (map (λ t. x ∷ t)) (points_none (s - x) bs (omega (arith, more, high, sum_cons b bs))))

-- only so many first coordinates lead to points
pub points_between : (s b : ℕ) (bs : List ℕ) (low high : ℕ) → s ≤ sum (b ∷ bs) → low ≡ s - sum bs → high ≡ min b s + 1 → points s (b ∷ bs) ≡ flat_map (piece s bs) (range_with_len low (high - low))
points_between s b bs low high less is end =
    let inside : low ≤ high = omega (arith, less, is, end, sum_cons b bs) in
    points_cons s b bs
    ∙ (ap (λ n. flat_map (piece s bs) (range_with_len 0 n)) (sym end)
    ∙ cut_below (piece s bs) 0 low (high - low) high low (omega (arith, inside)) (omega arith) (λ x from to. ap (map (λ t. x ∷ t)) (points_none (s - x) bs (omega (arith, to, is)))))

-- ---- how many
length_piece : (s : ℕ) (bs : List ℕ) (x : ℕ) → length (piece s bs x) ≡ length (points (s - x) bs)
length_piece s bs x = length-map (points (s - x) bs) (λ t. x ∷ t)

pub length_points : (s b : ℕ) (bs : List ℕ) → length (points s (b ∷ bs)) ≡ sum_from (λ x. length (points (s - x) bs)) 0 (min b s + 1)
length_points s b bs =
    ap length (points_cons s b bs)
    ∙ (length_in (piece s bs) 0 (min b s + 1)
    ∙ sum_same (λ x. length (piece s bs x)) (λ x. length (points (s - x) bs)) 0 (min b s + 1) (λ x low high. length_piece s bs x))

pub counted_is : (bs : List ℕ) (s : ℕ) → counted bs s ≡ min 65536 (length (points s bs))
unfolding counted
counted_is bs s = refl

pub counted_few : (bs : List ℕ) (s : ℕ) → length (points s bs) ≤ 65535 → counted bs s ≡ length (points s bs)
counted_few bs s few = omega (arith, few, counted_is bs s)

pub below_none : (bs : List ℕ) → counted_below bs 0 ≡ 0
unfolding counted_below sum_from
below_none bs = refl

pub below_more : (bs : List ℕ) (s : ℕ) → counted_below bs (s + 1) ≡ counted_below bs s + counted bs s
unfolding counted_below
below_more bs s = sum_more (counted bs) 0 s (s + 1) s (omega arith) (omega arith)

none_above : (s n : ℕ) → 0 < s → sum_from (counted []) s n ≡ 0
unfolding sum_from
none_above s zero some = refl
none_above s (suc n) some =
    let here : length (points s []) ≡ 0 = ap length (points_none_nil s some) in
    omega (arith, here, counted_is [] s, none_above (s + 1) n (omega arith))

-- the one point of no coordinates
pub below_nil : (s : ℕ) → 0 < s → counted_below [] s ≡ 1
unfolding counted_below sum_from
below_nil zero some = absurd (omega (arith, some))
below_nil (suc s) some =
    let here : length (points 0 []) ≡ 1 = ap length points_nil in
    omega (arith, here, counted_is [] 0, none_above 1 s (omega arith))

-- the counts of x sums downwards from s
counts_back : (bs : List ℕ) (s x rest : ℕ) → x + rest ≡ s + 1 → sum_from (λ y. counted bs (s - y)) 0 x + counted_below bs rest ≡ counted_below bs (s + 1)
unfolding counted_below
counts_back bs s x rest all = sum_back (counted bs) s x rest all

-- one more coordinate
pub counted_cons : (s b : ℕ) (bs : List ℕ) (rest : ℕ) → rest ≡ s - min s b → (counted_below bs rest ≤ counted_below bs (s + 1)) × (counted (b ∷ bs) s ≡ min (counted_below bs (s + 1) - counted_below bs rest) 65536)
counted_cons s b bs rest is =
    let back = counts_back bs s (min b s + 1) rest (omega (arith, is)) in
    let all : counted (b ∷ bs) s ≡ min 65536 (length (points s (b ∷ bs))) = counted_is (b ∷ bs) s in
    let parts : length (points s (b ∷ bs)) ≡ sum_from (λ x. length (points (s - x) bs)) 0 (min b s + 1) = length_points s b bs in
    let limited : min 65536 (sum_from (λ x. min 65536 (length (points (s - x) bs))) 0 (min b s + 1)) ≡ min 65536 (sum_from (λ x. length (points (s - x) bs)) 0 (min b s + 1)) =
    sum_limited 65536 (λ x. length (points (s - x) bs)) 0 (min b s + 1) in
    let same : sum_from (λ x. min 65536 (length (points (s - x) bs))) 0 (min b s + 1) ≡ sum_from (λ y. counted bs (s - y)) 0 (min b s + 1) =
    sum_same (λ x. min 65536 (length (points (s - x) bs))) (λ y. counted bs (s - y)) 0 (min b s + 1) (λ x low high. sym (counted_is bs (s - x))) in
    (omega (arith, back), omega (arith, back, all, parts, limited, same))

-- ---- points and their places
pub point_head : {s b x : ℕ} {bs t : List ℕ} → IsPoint s (b ∷ bs) (x ∷ t) → (x ≤ b) × (x ≤ s)
point_head {s} {b} {x} {bs} {t} point = (point.within 0 (omega arith), omega (arith, point.total, sum_cons x t))

pub point_tail : {s b x : ℕ} {bs t : List ℕ} → IsPoint s (b ∷ bs) (x ∷ t) → IsPoint (s - x) bs t
point_tail {s} {b} {x} {bs} {t} point = record {
  long = omega (arith, point.long);
  within = λ k less. point.within (suc k) (omega (arith, less));
  total = omega (arith, point.total, sum_cons x t);
}

point_cons : (s b x : ℕ) (bs t : List ℕ) → x ≤ b → x ≤ s → IsPoint (s - x) bs t → IsPoint s (b ∷ bs) (x ∷ t)
point_cons s b x bs t bound less point = record {
  long = omega (arith, point.long);
  within = within;
  total = omega (arith, point.total, sum_cons x t, less);
} where
  within : (k : ℕ) → k < length (b ∷ bs) → slice_index (x ∷ t) k ≤ slice_index (b ∷ bs) k
  within zero below = bound
  within (suc k) below = point.within k (omega (arith, below))

pub all_points : (s : ℕ) (bs : List ℕ) → All (IsPoint s bs) (points s bs)
all_points zero [] =
    subst (All (IsPoint 0 [])) (sym points_nil)
    (All-cons (IsPoint 0 []) [] [] (record { long = refl; within = λ k less. absurd (omega (arith, less)); total = refl }) (All-nil (IsPoint 0 [])))
all_points (suc s) [] = subst (All (IsPoint (suc s) [])) (sym (points_none_nil (suc s) (omega arith))) (All-nil (IsPoint (suc s) []))
all_points s (b ∷ bs) =
    let n : ℕ = min b s + 1 in
    subst (All (IsPoint s (b ∷ bs))) (sym (points_cons s b bs))
    (All-flat_map (IsPoint s (b ∷ bs)) (piece s bs) (range_with_len 0 n)
    (λ k d below.
    let x : ℕ = get_or (range_with_len 0 n) k d in
    let inside : k < n = omega (arith, below, length-range_with_len 0 n) in
    let is : x ≡ 0 + k = get_or-range_with_len 0 n k d inside in
    All-map (IsPoint s (b ∷ bs)) (λ t. x ∷ t) (points (s - x) bs)
    (All-weaker (IsPoint (s - x) bs) (λ t. IsPoint s (b ∷ bs) (x ∷ t)) (λ t point. point_cons s b x bs t (omega (arith, is, inside)) (omega (arith, is, inside)) point) (points (s - x) bs) (all_points (s - x) bs))))

place-same : (x : ℕ) (t : List ℕ) (ts : List (List ℕ)) → place_of (x ∷ t) (map (λ u. x ∷ u) ts) ≡ place_of t ts
place-same x t ts =
    position_or_len-map (pointwise ◌==◌ (x ∷ t)) (λ u. x ∷ u) ts
    ∙ position_agree (λ u. pointwise ◌==◌ (x ∷ t) (x ∷ u)) (pointwise ◌==◌ t) (λ u. Unit {0}) ts (λ u any. rw (eq-eqb x x refl) refl) (λ k d below. tt)

place-other : (x y : ℕ) (t : List ℕ) (ts : List (List ℕ)) → (x ≡ y → ⊥) → place_of (x ∷ t) (map (λ u. y ∷ u) ts) ≡ length (map (λ u. y ∷ u) ts)
place-other x y t [] other = refl
place-other x y t (u ∷ us) other = rw (ne_eqb x y other) (let rest : place_of (x ∷ t) (map (λ v. y ∷ v) us) ≡ length (map (λ v. y ∷ v) us) = place-other x y t us other in omega (arith, rest))

pub place_cons : (s b x : ℕ) (bs t : List ℕ) → x ≤ s → x ≤ b → place_of t (points (s - x) bs) < length (points (s - x) bs)
    → place_of (x ∷ t) (points s (b ∷ bs)) ≡ sum_from (λ y. length (points (s - y) bs)) 0 x + place_of t (points (s - x) bs)
place_cons s b x bs t less bound found =
    let at : place_of (x ∷ t) (piece s bs x) ≡ place_of t (points (s - x) bs) = place-same x t (points (s - x) bs) in
    let in_piece : place_of (x ∷ t) (piece s bs x) < length (piece s bs x) = omega (arith, at, found, length_piece s bs x) in
    let place : place_of (x ∷ t) (points s (b ∷ bs)) ≡ place_of (x ∷ t) (flat_map (piece s bs) (range_with_len 0 (min b s + 1))) = ap (place_of (x ∷ t)) (points_cons s b bs) in
    let run : place_of (x ∷ t) (flat_map (piece s bs) (range_with_len 0 (min b s + 1))) ≡ sum_from (λ y. length (piece s bs y)) 0 x + place_of (x ∷ t) (piece s bs x) =
    position_in (pointwise ◌==◌ (x ∷ t)) (piece s bs) 0 (min b s + 1) x x (omega (arith, less, bound)) (omega arith)
    (λ y low high. place-other x y t (points (s - y) bs) (λ same. omega (arith, same, high))) in_piece in
    let same : sum_from (λ y. length (piece s bs y)) 0 x ≡ sum_from (λ y. length (points (s - y) bs)) 0 x =
    sum_same (λ y. length (piece s bs y)) (λ y. length (points (s - y) bs)) 0 x (λ y low high. length_piece s bs y) in
    omega (arith, place, run, same, at)

pub is_found : (s : ℕ) (bs t : List ℕ) → IsPoint s bs t → place_of t (points s bs) < length (points s bs)
is_found s [] [] point =
    let none : s ≡ 0 = sym point.total in
    subst (λ k. place_of [] (points k []) < length (points k [])) (sym none) (rw points_nil (omega arith))
is_found s [] (x ∷ t) point = absurd (omega (arith, point.long))
is_found s (b ∷ bs) [] point = absurd (omega (arith, point.long))
is_found s (b ∷ bs) (x ∷ t) point =
    let head = point_head point in
    let found : place_of t (points (s - x) bs) < length (points (s - x) bs) = is_found (s - x) bs t (point_tail point) in
    omega (arith, found, place_cons s b x bs t head.1 head.0 found, length_points s b bs, sum_part (λ y. length (points (s - y) bs)) 0 x (min b s + 1) x (omega (arith, head.0, head.1)) (omega arith))

-- the step of a walk along the coordinates
pub record Steps (s b x : ℕ) (bs t : List ℕ) : Type 0 where
  pub below : counted_below bs (s + 1 - x) ≤ counted_below bs (s + 1)
  pub place : place_of (x ∷ t) (points s (b ∷ bs)) ≡ (counted_below bs (s + 1) - counted_below bs (s + 1 - x)) + place_of t (points (s - x) bs)
  pub few : length (points (s - x) bs) ≤ 65535
  pub less : x ≤ s

pub steps : (s b x : ℕ) (bs t : List ℕ) → IsPoint s (b ∷ bs) (x ∷ t) → length (points s (b ∷ bs)) ≤ 65535 → Steps s b x bs t
steps s b x bs t point few =
    let head = point_head point in
    let f : ℕ → ℕ = λ y. length (points (s - y) bs) in
    let each : (y : ℕ) → y < min b s + 1 → f y ≤ 65535 = λ y less. omega (arith, few, length_points s b bs, sum_part f 0 y (min b s + 1) y less (omega arith)) in
    let found : place_of t (points (s - x) bs) < length (points (s - x) bs) = is_found (s - x) bs t (point_tail point) in
    let back = counts_back bs s x (s + 1 - x) (omega (arith, head.1)) in
    let exact : sum_from f 0 x ≡ sum_from (λ y. counted bs (s - y)) 0 x =
    sum_same f (λ y. counted bs (s - y)) 0 x (λ y low high. sym (counted_few bs (s - y) (each y (omega (arith, high, head.0, head.1))))) in
    record {
      below = omega (arith, back);
      place = omega (arith, place_cons s b x bs t head.1 head.0 found, exact, back);
      few = each x (omega (arith, head.0, head.1));
      less = head.1;
    }
