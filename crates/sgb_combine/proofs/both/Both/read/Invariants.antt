use Rattle.std.proofs.Common.{All, IsSome}
use Rattle.std.specs.List.{filter}
use Rattle.sgb_graph.specs.Graph.{arc_at}
use Rattle.sgb_graph.specs.Operand.{spokes}
use Rattle.sgb_combine.specs.Gunion.{is_candidate}
use Rattle.sgb_combine.proofs.WalkedSpokes.{Holds}
use Rattle.sgb_combine.proofs.both.Both.read.Given as goal

abbrev pub invariant-loop-number : goal.invariant-loop-number
invariant-loop-number l = record {
  mine : Holds l.first (is_candidate l.sought.directed l.sought.n l.sought.vertex.0) (filter (is_candidate l.sought.directed l.sought.n l.sought.vertex.0) (spokes l.halves l.first l.sought.vertex.0)) l.self.mine.items l.number-iterator;
  theirs : Holds l.second (is_candidate l.sought.directed l.sought.n l.sought.vertex.0) (filter (is_candidate l.sought.directed l.sought.n l.sought.vertex.0) (spokes l.halves l.second l.sought.vertex.0)) l.self.theirs.items l.others;
  live : All (λ k. IsSome (arc_at l.first k)) l.number-iterator;
  others : All (λ k. IsSome (arc_at l.second k)) l.others;
}
