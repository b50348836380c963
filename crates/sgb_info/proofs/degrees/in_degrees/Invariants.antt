use Rattle.std.proofs.Common.{◌≡◌, length}
use Rattle.sgb_graph.specs.Graph.{n_of}
use Rattle.sgb_info.proofs.DegreeCounts.{Counted}
use Rattle.sgb_info.proofs.degrees.in_degrees.Given as goal

abbrev pub invariant-loop-number : goal.invariant-loop-number
invariant-loop-number l = record {
  length : length l.degrees.items ≡ n_of l.graph;
  counted : Counted l.graph l.number l.degrees.items;
}
