use Rattle.std.proofs.Common.{◌≡◌, ◌≤◌, ◌++◌, length, All, IsSome}
use Rattle.sgb_graph.specs.Graph.{arc_at}
use Rattle.sgb_info.specs.Repeats.{tips}
use Rattle.sgb_info.proofs.TipLists.{tips_of}
use Rattle.sgb_info.proofs.repeats.read_tips.Given as goal

abbrev pub invariant-loop-number : goal.invariant-loop-number
invariant-loop-number l = record {
  read : l.into.items ++ tips_of l.directed l.graph l.fn.vertex.0 l.number-iterator ≡ tips l.directed l.graph l.fn.vertex.0;
  few : length (tips l.directed l.graph l.fn.vertex.0) ≤ 1000000;
  live : All (λ k. IsSome (arc_at l.graph k)) l.number-iterator;
}
