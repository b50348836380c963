use Rattle.std.proofs.Common.{◌∷◌, [], map}
use Rattle.sgb_graph.proofs.InsertionRuns.{LeftOf}
use Rattle.sgb_random.specs.Private.Progress.{insertion_of}
use Rattle.sgb_random.proofs.build.insert_edges.Given as goal

abbrev pub invariant-loop-edge : goal.invariant-loop-edge
invariant-loop-edge l = LeftOf l.initial.builder (map insertion_of l.edges) l.builder (λ e. insertion_of e ∷ []) l.edges l.edge-index
