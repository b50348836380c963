use Rattle.std.proofs.Common.{◌<◌, ℕ, All}
use Rattle.sgb_graph.specs.Graph.{arcs_of}
use Rattle.sgb_info.specs.Private.Classes.{IsPut, Joins}
use Rattle.sgb_info.proofs.joins.join_arcs.Given as goal

abbrev pub invariant-loop-v : goal.invariant-loop-v
invariant-loop-v l = record {
  joins : Joins l.graph l.gap l.initial.classes l.classes;
  put : (u : ℕ) → u < l.v → All (IsPut l.graph l.gap u l.classes) (arcs_of l.graph u);
}
