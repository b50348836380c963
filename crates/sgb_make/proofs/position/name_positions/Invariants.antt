use Rattle.std.proofs.Common.{◌≡◌, ◌<◌, map}
use Rattle.sgb_plan.proofs.Plans.{NamesOf}
use Rattle.sgb_simplex.specs.Points.{point_vertex}
use Rattle.sgb_make.specs.Ride.{positions}
use Rattle.sgb_make.specs.Private.Rank.{IsOn, rank}
use Rattle.sgb_make.proofs.position.name_positions.Given as goal

abbrev pub invariant-loop : goal.invariant-loop
invariant-loop l = record {
  left : NamesOf l.fn.builder (map point_vertex (positions l.sides)) l.builder point_vertex (positions l.sides) l.counter;
  on : IsOn l.sides l.position.items;
  number : l.counter < l.count → rank l.sides l.position.items ≡ l.counter;
}
