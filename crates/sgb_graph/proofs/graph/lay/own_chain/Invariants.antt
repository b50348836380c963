use Rattle.std.proofs.Common.{◌≡◌}
use Rattle.sgb_graph.specs.Private.Lay.{OwnsUpTo, nexts}
use Rattle.sgb_graph.proofs.graph.lay.own_chain.Given as goal

abbrev pub invariant-loop-link : goal.invariant-loop-link
invariant-loop-link l = record {
  owns : OwnsUpTo l.vertices l.vertex.0 l.link l.rows l.holes;
  links : nexts l.rows ≡ nexts l.fn.rows;
}

abbrev pub decreases-loop-link : goal.decreases-loop-link
decreases-loop-link l = l.holes
