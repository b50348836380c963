use Rattle.std.proofs.Common.{◌∷◌, [], map}
use Rattle.sgb_graph.proofs.InsertionRuns.{LeftOf}
use Rattle.sgb_graph.specs.Builder.{along}
use Rattle.sgb_combine.proofs.run.insert_spokes.Given as goal

abbrev pub invariant-loop-spoke : goal.invariant-loop-spoke
invariant-loop-spoke l =
    LeftOf l.initial.builder (map (along l.from.0) l.spokes) l.builder (λ s. along l.from.0 s ∷ []) l.spokes l.spoke-index
