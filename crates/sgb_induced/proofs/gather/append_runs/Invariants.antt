use Rattle.std.proofs.Common.{All, IsSome}
use Rattle.sgb_graph.specs.Graph.{arc_at}
use Rattle.sgb_induced.proofs.ArcRuns.{Appends}
use Rattle.sgb_induced.proofs.gather.append_runs.Given as goal

abbrev pub invariant-loop-number : goal.invariant-loop-number
invariant-loop-number l = record {
  appends : Appends l.directed l.graph l.images l.fn.vertex.0 l.initial.runs.items l.runs.items l.number-iterator;
  live : All (λ k. IsSome (arc_at l.graph k)) l.number-iterator;
}
