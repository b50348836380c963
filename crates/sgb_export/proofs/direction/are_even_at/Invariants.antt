use Rattle.std.proofs.Common.{◌≡◌, ◌<◌, false, All, IsSome}
use Rattle.std.specs.List.{list_all}
use Rattle.sgb_graph.specs.Graph.{arc_at, made_of}
use Rattle.sgb_export.specs.Links.{is_even, are_even_at}
use Rattle.sgb_export.proofs.ExportedArcs.{written}
use Rattle.sgb_export.proofs.direction.are_even_at.Given as goal

abbrev pub invariant-loop-number : goal.invariant-loop-number
invariant-loop-number l = record {
  same : are_even_at l.graph l.fn.vertex.0 ≡ list_all (is_even l.graph) (written false l.graph l.fn.vertex.0 l.number-iterator);
  live : All (λ k. IsSome (arc_at l.graph k)) l.number-iterator;
  within : All (λ k. k < made_of l.graph) l.number-iterator;
}
