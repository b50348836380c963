use Rattle.std.proofs.Common.{All, IsSome, ◌++◌}
use Rattle.sgb_graph.specs.Graph.{arc_at}
use Rattle.sgb_combine.specs.Gunion.{is_candidate}
use Rattle.sgb_combine.specs.Private.Both.{passing}
use Rattle.sgb_combine.proofs.WalkedSpokes.{Holds}
use Rattle.sgb_combine.proofs.both.hold_rest.Given as goal

abbrev pub invariant-loop-number : goal.invariant-loop-number
invariant-loop-number l = record {
  holds : Holds l.graph (is_candidate l.sought.directed l.sought.n l.sought.vertex.0) (l.initial.into.items ++ passing l.graph (is_candidate l.sought.directed l.sought.n l.sought.vertex.0) l.fn.numbers) l.into.items l.number-iterator;
  live : All (λ k. IsSome (arc_at l.graph k)) l.number-iterator;
}
