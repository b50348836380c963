use Rattle.std.proofs.Common.{map}
use Rattle.sgb_plan.proofs.Plans.{NamesOf}
use Rattle.sgb_simplex.specs.Points.{points, point_vertex}
use Rattle.sgb_simplex.proofs.naming.name_vertices.Given as goal

abbrev pub invariant-loop-v : goal.invariant-loop-v
invariant-loop-v l = NamesOf l.fn.builder (map point_vertex (points l.list.total l.list.bounds.items)) l.builder point_vertex (points l.list.total l.list.bounds.items) l.v
