use Rattle.std.proofs.Common.{◌<◌, All, IsSome}
use Rattle.sgb_graph.specs.Graph.{arcs_of, arc_at, made_of}
use Rattle.sgb_print.specs.Show.{arcs_text}
use Rattle.sgb_print.proofs.TextPieces.{Writes}
use Rattle.sgb_print.proofs.show.print_arcs.Given as goal

abbrev pub invariant-loop-number : goal.invariant-loop-number
invariant-loop-number g l = record {
  written : Writes l.initial.writer l.writer
      (arcs_text l.graph (arcs_of l.graph l.fn.vertex.0)) (arcs_text l.graph l.number-iterator);
  live : All (λ k. IsSome (arc_at l.graph k)) l.number-iterator;
  within : All (λ k. k < made_of l.graph) l.number-iterator;
}
