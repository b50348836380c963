use Rattle.std.proofs.Common.{◌≡◌, true, IfSome}
use Rattle.sgb_graph.specs.Graph.{arcs_of}
use Rattle.sgb_graph.specs.Paired.{is_loop, are_loops_paired}
use Rattle.sgb_graph.proofs.PairedLemmas.{behind}
use Rattle.sgb_graph.proofs.graph.Graph.are_loops_paired.Given as goal

abbrev pub invariant-loop-number : goal.invariant-loop-number
invariant-loop-number l = record {
  same : are_loops_paired l.self l.vertex.0 (behind l.alone l.number-iterator) ≡ are_loops_paired l.self l.vertex.0 (arcs_of l.self l.vertex.0);
  loops : IfSome l.alone (λ k. is_loop l.self l.vertex.0 k.0 ≡ true);
}
