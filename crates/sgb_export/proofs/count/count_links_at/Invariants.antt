use Rattle.std.proofs.Common.{◌≡◌, ◌≤◌, ◌<◌, ◌+◌, length, All, IsSome}
use Rattle.sgb_graph.specs.Graph.{arc_at, made_of}
use Rattle.sgb_export.specs.Links.{links_at}
use Rattle.sgb_export.proofs.ExportedArcs.{written}
use Rattle.sgb_export.proofs.count.count_links_at.Given as goal

abbrev pub invariant-loop-number : goal.invariant-loop-number
invariant-loop-number l = record {
  total : l.count + length (written l.directed l.graph l.fn.vertex.0 l.number-iterator) ≡ length (links_at l.directed l.graph l.fn.vertex.0);
  few : length (links_at l.directed l.graph l.fn.vertex.0) ≤ 1000000;
  live : All (λ k. IsSome (arc_at l.graph k)) l.number-iterator;
  within : All (λ k. k < made_of l.graph) l.number-iterator;
}
