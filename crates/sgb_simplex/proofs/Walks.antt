-- The walk along a point's coordinates that counts the points before it.
use Rattle.std.proofs.Common.{◌≡◌, ◌<◌, ◌≤◌, ◌+◌, ◌-◌, ℕ, List, [], ◌∷◌, length, drop, inl, inr, sym, ap, ap₂, subst, ◌∙◌, arith}
use Rattle.std.specs.List.{sum, slice_index}
use Rattle.std.proofs.lemmas.Bool.{cases_eq}
use Rattle.std.proofs.lemmas.List.{length-set, get_or-set_same, get_or-set_other, drop_more, drop_all}
use Rattle.std.proofs.lemmas.List.Sums.{sum_by-set}
use Rattle.sgb_simplex.specs.Moves.{lowered, raised}
use Rattle.sgb_simplex.specs.Points.{points, place_of}
use Rattle.sgb_simplex.specs.Private.Counts.{counted_below, IsPoint}
use Rattle.sgb_simplex.proofs.Simplices.{points_nil, point_tail, is_found, steps}

-- a move leads from a point to a point
pub moved_point : {s : ℕ} {bs p : List ℕ} → IsPoint s bs p → (j k : ℕ) → j < k → k < length p → 0 < slice_index p j → slice_index p k < slice_index bs k → IsPoint s bs (raised (lowered p j) k)
moved_point {s} {bs} {p} point j k order inside some room = record { long = long; within = within; total = total } where
  low : List ℕ
  low = lowered p j

  low_long : length low ≡ length p
  low_long = length-set p j (slice_index p j - 1)

  at_k : slice_index low k ≡ slice_index p k
  at_k = get_or-set_other p j k (slice_index p j - 1) 0 (λ same. omega (arith, order, same))

  long : length (raised low k) ≡ length bs
  long = length-set low k (slice_index low k + 1) ∙ (low_long ∙ point.long)

  total : sum (raised low k) ≡ s
  total = omega (
    arith,
    sum_by-set (λ x. x) p j (slice_index p j - 1) 0 (omega (arith, order, inside)),
    sum_by-set (λ x. x) low k (slice_index low k + 1) 0 (omega (arith, inside, low_long)),
    point.total,
    some,
  )

  within : (i : ℕ) → i < length bs → slice_index (raised low k) i ≤ slice_index bs i
  within i less =
      elim (cases_eq i k) [
        | inl here ↦
            let is : slice_index (raised low k) i ≡ slice_index p k + 1 = ap (slice_index (raised low k)) here ∙ (get_or-set_same low k (slice_index low k + 1) 0 (omega (arith, inside, low_long)) ∙ ap (λ n. n + 1) at_k) in
            let bound : slice_index bs i ≡ slice_index bs k = ap (slice_index bs) here in
            omega (arith, is, bound, room)
        | inr other ↦
            let is : slice_index (raised low k) i ≡ slice_index low i = get_or-set_other low k i (slice_index low k + 1) 0 other in
            elim (cases_eq i j) [
              | inl there ↦
                  let at : slice_index low i ≡ slice_index p j - 1 = ap (slice_index low) there ∙ get_or-set_same p j (slice_index p j - 1) 0 (omega (arith, order, inside)) in
                  let was : slice_index p i ≡ slice_index p j = ap (slice_index p) there in
                  omega (arith, is, at, was, point.within i less)
              | inr apart ↦ omega (arith, is, get_or-set_other p j i (slice_index p j - 1) 0 apart, point.within i less)
            ]
      ]

-- so many points before t are counted; of those with its first i coordinates, the rest have the sum `left`
pub record Walks (total : ℕ) (bounds t : List ℕ) (number left i : ℕ) : Type 0 where
  pub point : IsPoint left (drop i bounds) (drop i t)
  pub few : length (points left (drop i bounds)) ≤ 65535
  pub place : number + place_of (drop i t) (points left (drop i bounds)) ≡ place_of t (points total bounds)
  pub less : left ≤ total
  pub found : place_of t (points total bounds) < length (points total bounds)
  pub most : length (points total bounds) ≤ 65535
  pub long : length t ≡ length bounds

pub walk_start : {total : ℕ} {bounds t : List ℕ} → IsPoint total bounds t → length (points total bounds) ≤ 65535 → Walks total bounds t 0 total 0
walk_start {total} {bounds} {t} point few = record {
  point = point;
  few = few;
  place = omega arith;
  less = omega arith;
  found = is_found total bounds t point;
  most = few;
  long = point.long;
}

-- the points that are counted at a coordinate
pub record WalkStep (total : ℕ) (bounds t : List ℕ) (number left i x high low : ℕ) : Type 0 where
  pub ordered : low ≤ high
  pub less : x ≤ left
  pub next : Walks total bounds t (number + (high - low)) (left - x) (i + 1)

pub walk_step : {total : ℕ} {bounds t : List ℕ} {number left i : ℕ} → Walks total bounds t number left i → (x high low : ℕ) → i < length t → x ≡ slice_index t i → high ≡ counted_below (drop (i + 1) bounds) (left + 1) → low ≡ counted_below (drop (i + 1) bounds) (left + 1 - x) → WalkStep total bounds t number left i x high low
walk_step {total} {bounds} {t} {number} {left} {i} walk x high low inside is highs lows =
    let b : ℕ = slice_index bounds i in
    let bs : List ℕ = drop (i + 1) bounds in
    let rest : List ℕ = drop (i + 1) t in
    let cut_t : drop i t ≡ x ∷ rest = drop_more t i 0 inside ∙ ap (λ y. y ∷ rest) (sym is) in
    let cut_b : drop i bounds ≡ b ∷ bs = drop_more bounds i 0 (omega (arith, inside, walk.long)) in
    let point : IsPoint left (b ∷ bs) (x ∷ rest) = subst (λ l. IsPoint left l (x ∷ rest)) cut_b (subst (IsPoint left (drop i bounds)) cut_t walk.point) in
    let size : length (points left (drop i bounds)) ≡ length (points left (b ∷ bs)) = ap (λ l. length (points left l)) cut_b in
    let step = steps left b x bs rest point (omega (arith, size, walk.few)) in
    let place : place_of (drop i t) (points left (drop i bounds)) ≡ place_of (x ∷ rest) (points left (b ∷ bs)) = ap₂ (λ u l. place_of u (points left l)) cut_t cut_b in
    record {
      ordered = omega (arith, step.below, highs, lows);
      less = step.less;
      next = record {
        point = point_tail point;
        few = step.few;
        place = omega (arith, place, step.place, walk.place, highs, lows);
        less = omega (arith, walk.less);
        found = walk.found;
        most = walk.most;
        long = walk.long;
      };
    }

pub walk_end : {total : ℕ} {bounds t : List ℕ} {number left i : ℕ} → Walks total bounds t number left i → length t ≤ i → number ≡ place_of t (points total bounds)
walk_end {total} {bounds} {t} {number} {left} {i} walk done =
    let no_t : drop i t ≡ [] = drop_all i t done in
    let no_b : drop i bounds ≡ [] = drop_all i bounds (omega (arith, done, walk.long)) in
    let none : left ≡ 0 = sym walk.point.total ∙ ap sum no_t in
    let first : place_of (drop i t) (points left (drop i bounds)) ≡ 0 =
    ap (λ u. place_of u (points left (drop i bounds))) no_t
    ∙ (ap₂ (λ s l. place_of [] (points s l)) none no_b ∙ ap (place_of []) points_nil) in
    omega (arith, walk.place, first)
