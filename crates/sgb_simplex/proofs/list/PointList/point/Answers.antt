use Rattle.std.proofs.Common.{◌≡◌, ◌<◌, ◌+◌, ◌-◌, ◌*◌, ℕ, List, [], length, get_or, take, drop, sym, ap, subst, refl, ◌∙◌, arith}
use Rattle.std.specs.List.{flat_map}
use Rattle.std.proofs.lemmas.List.Elements.{All-weaker}
use Rattle.sgb_simplex.specs.Points.{points}
use Rattle.sgb_simplex.specs.Private.Counts.{IsPoint}
use Rattle.sgb_simplex.proofs.Parts.{PartAt, part_at}
use Rattle.sgb_simplex.proofs.Simplices.{all_points}
use Rattle.sgb_simplex.proofs.list.PointList.point.Goals as goal

part : (total w v : ℕ) (bounds : List ℕ) → w ≡ length bounds → v < length (points total bounds) → PartAt (points total bounds) w v (v * w)
part total w v bounds wide less =
    part_at (points total bounds) w v (v * w) (All-weaker (IsPoint total bounds) (λ t. length t ≡ w) (λ t point. point.long ∙ sym wide) (points total bounds) (all_points total bounds)) less refl

value : (total w v n : ℕ) (bounds coordinates : List ℕ) → w ≡ length bounds → v < length (points total bounds) → coordinates ≡ flat_map (λ t. t) (points total bounds) → n ≡ w → take n (drop (v * w) coordinates) ≡ get_or (points total bounds) v []
value total w v n bounds coordinates wide less listed is =
    ap (λ k. take k (drop (v * w) coordinates)) is ∙ (ap (λ l. take w (drop (v * w) l)) listed ∙ (part total w v bounds wide less).is)

pub slice_bounds-result-end : goal.slice_bounds-result-end
slice_bounds-result-end c =
    let self = c.args.self.now in
    let inside = part self.total c.len-width.result c.args.v self.bounds.items (omega (arith, self.bounds.ok.0)) (omega (arith, self.counted)) in
    omega (arith, inside.inside, ap length (c.deref.ensures.value ∙ self.listed))

pub returns-clause-value : goal.returns-clause-value
returns-clause-value c =
    let self = c.args.self.now in
    value self.total c.len-width.result c.args.v (c.args.v * c.len-width.result + c.len-width.result - c.args.v * c.len-width.result) self.bounds.items c.deref.result.now (omega (arith, self.bounds.ok.0)) (omega (arith, self.counted)) (c.deref.ensures.value ∙ self.listed) (omega arith)

pub returns-clause-point : goal.returns-clause-point
returns-clause-point c =
    let self = c.args.self.now in
    subst (IsPoint self.total self.bounds.items)
    (sym (value self.total c.len-width.result c.args.v (c.args.v * c.len-width.result + c.len-width.result - c.args.v * c.len-width.result) self.bounds.items c.deref.result.now (omega (arith, self.bounds.ok.0)) (omega (arith, self.counted)) (c.deref.ensures.value ∙ self.listed) (omega arith)))
    (all_points self.total self.bounds.items c.args.v [] (omega (arith, self.counted)))
