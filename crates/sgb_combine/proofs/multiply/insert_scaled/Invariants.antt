use Rattle.std.proofs.Common.{◌∷◌, [], map}
use Rattle.sgb_graph.proofs.InsertionRuns.{LeftOf}
use Rattle.sgb_graph.specs.Builder.{along}
use Rattle.sgb_combine.specs.Private.Pruned.{scaled}
use Rattle.sgb_combine.proofs.multiply.insert_scaled.Given as goal

abbrev pub invariant-loop-spoke : goal.invariant-loop-spoke
invariant-loop-spoke l =
    LeftOf l.initial.builder (map (along l.number.0) (map (scaled l.scale l.offset) l.spokes)) l.builder
    (λ s. along l.number.0 (scaled l.scale l.offset s) ∷ []) l.spokes l.spoke-index
