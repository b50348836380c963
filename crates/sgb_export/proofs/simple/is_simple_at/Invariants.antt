use Rattle.std.proofs.Common.{◌≡◌, ◌≤◌, ◌<◌, ◌+◌, false, length, All, IsSome}
use Rattle.sgb_graph.specs.Graph.{arc_at, made_of, n_of}
use Rattle.sgb_export.specs.Links.{links_at}
use Rattle.sgb_export.specs.Simple.{are_simple}
use Rattle.sgb_export.proofs.ExportedArcs.{written}
use Rattle.sgb_export.proofs.SimpleEdges.{are_fresh}
use Rattle.sgb_export.proofs.simple.is_simple_at.Given as goal

abbrev pub invariant-loop-number : goal.invariant-loop-number
invariant-loop-number l = record {
  same : are_simple (links_at false l.graph l.fn.vertex.0) ≡ are_fresh l.marks (l.fn.vertex.0 + 1) (written false l.graph l.fn.vertex.0 l.number-iterator);
  count : length l.marks ≡ n_of l.graph;
  low : All (λ m. m ≤ l.fn.vertex.0 + 1) l.marks;
  live : All (λ k. IsSome (arc_at l.graph k)) l.number-iterator;
  within : All (λ k. k < made_of l.graph) l.number-iterator;
}
