use Rattle.std.proofs.Common.{All, IsSome}
use Rattle.sgb_graph.specs.Graph.{arc_at}
use Rattle.sgb_graph.specs.Operand.{spokes}
use Rattle.sgb_graph.proofs.Spokes.{Reads}
use Rattle.sgb_graph.proofs.operand.read_spokes.Given as goal

abbrev pub invariant-loop-number : goal.invariant-loop-number
invariant-loop-number l = record {
  reads : Reads l.graph l.initial.into.items (spokes l.directed l.graph l.fn.vertex.0) l.into.items l.number-iterator;
  live : All (λ k. IsSome (arc_at l.graph k)) l.number-iterator;
}
