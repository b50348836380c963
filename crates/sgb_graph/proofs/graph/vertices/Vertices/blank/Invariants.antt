use Rattle.std.proofs.Common.{◌≡◌, [], None, replicate}
use Rattle.sgb_graph.proofs.graph.vertices.Vertices.blank.Given as goal

abbrev pub invariant-loop-i : goal.invariant-loop-i
invariant-loop-i l = record {
  labels : l.labels.items ≡ replicate l._i [];
  firsts : l.firsts.items ≡ replicate l._i None;
}
