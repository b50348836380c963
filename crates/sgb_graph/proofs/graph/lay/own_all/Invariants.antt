use Rattle.std.proofs.Common.{◌≡◌}
use Rattle.sgb_graph.specs.Private.Lay.{OwnsBelow, nexts}
use Rattle.sgb_graph.proofs.graph.lay.own_all.Given as goal

abbrev pub invariant-loop-vertex : goal.invariant-loop-vertex
invariant-loop-vertex l = record {
  owns : OwnsBelow l.vertices l.vertex l.rows l.holes;
  links : nexts l.rows ≡ nexts l.fn.rows;
}
