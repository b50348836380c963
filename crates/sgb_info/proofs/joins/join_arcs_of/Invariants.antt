use Rattle.std.proofs.Common.{◌<◌, All, IsSome}
use Rattle.std.specs.List.{Contains}
use Rattle.sgb_graph.specs.Graph.{arc_at, arcs_of, made_of}
use Rattle.sgb_info.specs.Private.Classes.{Joins}
use Rattle.sgb_info.proofs.ClassLemmas.{ArePutBut}
use Rattle.sgb_info.proofs.joins.join_arcs_of.Given as goal

abbrev pub invariant-loop-number : goal.invariant-loop-number
invariant-loop-number l = record {
  joins : Joins l.graph l.gap l.initial.classes l.classes;
  live : All (λ k. IsSome (arc_at l.graph k)) l.number-iterator;
  within : All (λ k. k < made_of l.graph) l.number-iterator;
  listed : All (Contains (arcs_of l.graph l.fn.vertex.0)) l.number-iterator;
  put : ArePutBut l.graph l.gap l.fn.vertex.0 l.classes l.number-iterator;
}
