use Rattle.std.proofs.Common.{◌≡◌, ◌≤◌, ◌<◌, ◌+◌, length, All, IsSome}
use Rattle.sgb_graph.specs.Graph.{arc_at, made_of}
use Rattle.sgb_print.proofs.TextPieces.{Writes}
use Rattle.sgb_export.specs.Links.{links_at}
use Rattle.sgb_export.specs.Text.{links_text}
use Rattle.sgb_export.proofs.ExportedArcs.{written}
use Rattle.sgb_export.proofs.write.put_links_at.Given as goal

abbrev pub invariant-loop-number : goal.invariant-loop-number
invariant-loop-number g l = record {
  lines : Writes l.initial.writer l.writer
      (links_text l.format l.directed l.graph l.fn.count (links_at l.directed l.graph l.fn.vertex.0))
      (links_text l.format l.directed l.graph l.next (written l.directed l.graph l.fn.vertex.0 l.number-iterator));
  total : l.next + length (written l.directed l.graph l.fn.vertex.0 l.number-iterator) ≡ l.fn.count + length (links_at l.directed l.graph l.fn.vertex.0);
  few : length (links_at l.directed l.graph l.fn.vertex.0) ≤ 1000000;
  live : All (λ k. IsSome (arc_at l.graph k)) l.number-iterator;
  within : All (λ k. k < made_of l.graph) l.number-iterator;
}
