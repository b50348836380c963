-- Lemmas on points as they are counted on from a number.
use Rattle.std.proofs.Common.{◌≡◌, ◌<◌, ◌≤◌, ◌+◌, ◌-◌, ℕ, suc, List, [], ◌∷◌, length, min, refl, ap, subst, ◌∙◌, arith}
use Rattle.std.specs.List.{flat_map, sum, range_with_len}
use Rattle.std.proofs.lemmas.List.{length-map}
use Rattle.sgb_simplex.specs.Points.{points}
use Rattle.sgb_simplex.specs.Private.Counts.{sum_from}
use Rattle.sgb_simplex.proofs.Runs.{length_in}
use Rattle.sgb_simplex.proofs.Simplices.{piece, points_nil, points_between, sum_cons}
use Rattle.sgb_simplex.proofs.Sums.{sum_same}

-- the points that begin with one of so many numbers, from x on
abbrev pub sizes_from : ℕ → List ℕ → ℕ → ℕ → ℕ
sizes_from s rest x n = sum_from (λ y. length (points (s - y) rest)) x n

sizes_run : (s : ℕ) (rest : List ℕ) (x n : ℕ) → length (flat_map (piece s rest) (range_with_len x n)) ≡ sizes_from s rest x n
sizes_run s rest x n =
    length_in (piece s rest) x n
    ∙ sum_same (λ y. length (piece s rest y)) (λ y. length (points (s - y) rest)) x n (λ y low high. length-map (points (s - y) rest) (λ t. y ∷ t))

sizes_none : (s : ℕ) (rest : List ℕ) (x n : ℕ) → n ≡ 0 → sizes_from s rest x n ≡ 0
unfolding sum_from
sizes_none s rest x n none = ap (sizes_from s rest x) none

sizes_first : (s : ℕ) (rest : List ℕ) (x n m : ℕ) → n ≡ suc m → sizes_from s rest x n ≡ length (points (s - x) rest) + sizes_from s rest (x + 1) m
unfolding sum_from
sizes_first s rest x n m more = ap (sizes_from s rest x) more

-- those with a first number below x are counted; of all that have this sum and these bounds, the others are left
pub record LeftToCount (found s : ℕ) (all rest : List ℕ) (now x end : ℕ) : Type 0 where
  pub whole : now + sizes_from s rest x (end - x) ≡ found + length (points s all)

pub count_start : (found s b : ℕ) (all rest : List ℕ) (low high : ℕ) → all ≡ b ∷ rest → s ≤ sum all → low ≡ s - sum rest → high ≡ min b s + 1 → LeftToCount found s all rest found low high
count_start found s b all rest low high cut less is end =
    let fits : s ≤ sum (b ∷ rest) = subst (λ l. s ≤ sum l) cut less in
    let same : length (points s all) ≡ sizes_from s rest low (high - low) =
    ap (λ l. length (points s l)) cut ∙ (ap length (points_between s b rest low high fits is end) ∙ sizes_run s rest low (high - low)) in
    record { whole = omega (arith, same) }

pub count_step : {found s : ℕ} {all rest : List ℕ} {now new x end : ℕ} → LeftToCount found s all rest now x end → x < end → new ≡ min 65536 (now + length (points (s - x) rest)) → new ≤ 65535 → LeftToCount found s all rest new (x + 1) end
count_step {found} {s} {all} {rest} {now} {new} {x} {end} left less counted few =
    let first = sizes_first s rest x (end - x) (end - (x + 1)) (omega (arith, less)) in
    record { whole = omega (arith, left.whole, first, counted, few) }

pub count_over : {found s : ℕ} {all rest : List ℕ} {now new x end : ℕ} → LeftToCount found s all rest now x end → x < end → new ≡ min 65536 (now + length (points (s - x) rest)) → 65535 < new → new ≡ min 65536 (found + length (points s all))
count_over {found} {s} {all} {rest} {now} {new} {x} {end} left less counted many =
    let first = sizes_first s rest x (end - x) (end - (x + 1)) (omega (arith, less)) in
    omega (arith, left.whole, first, counted, many)

pub count_end : {found s : ℕ} {all rest : List ℕ} {now x end : ℕ} → LeftToCount found s all rest now x end → end ≤ x → now ≤ 65535 → now ≡ min 65536 (found + length (points s all))
count_end {found} {s} {all} {rest} {now} {x} {end} left done few =
    let none = sizes_none s rest x (end - x) (omega (arith, done)) in
    omega (arith, left.whole, none, few)

-- along at most one coordinate there is one point
pub one_point : (s : ℕ) (bs : List ℕ) → length bs ≤ 1 → s ≤ sum bs → length (points s bs) ≡ 1
one_point s [] few fits =
    let none : s ≡ 0 = omega (arith, fits) in
    ap (λ k. length (points k [])) none ∙ ap length points_nil
one_point s (b ∷ []) few fits =
    let empty : sum [] ≡ 0 = refl in
    let run = sizes_run s [] s (s + 1 - s) in
    let first = sizes_first s [] s (s + 1 - s) 0 (omega arith) in
    let behind = sizes_none s [] (s + 1) 0 refl in
    let nothing : s - s ≡ 0 = omega arith in
    let last : length (points (s - s) []) ≡ 1 = ap (λ k. length (points k [])) nothing ∙ ap length points_nil in
    ap length (points_between s b [] s (s + 1) fits (omega (arith, empty)) (omega (arith, fits, empty, sum_cons b [])))
    ∙ omega (arith, run, first, behind, last)
one_point s (b ∷ c ∷ bs) few fits = absurd (omega (arith, few))
