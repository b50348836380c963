use Rattle.std.proofs.Common.{◌≡◌, true}
use Rattle.std.specs.List.{list_all, range_with_len}
use Rattle.sgb_graph.specs.Graph.{arcs_of}
use Rattle.sgb_graph.specs.Paired.{are_loops_paired}
use Rattle.sgb_graph.proofs.graph.Graph.are_all_loops_paired.Given as goal

abbrev pub invariant-loop-vertex : goal.invariant-loop-vertex
invariant-loop-vertex l = list_all (λ v. are_loops_paired l.self v (arcs_of l.self v)) (range_with_len 0 l.vertex) ≡ true
