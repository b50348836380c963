use Rattle.std.proofs.Common.{◌∷◌, [], map}
use Rattle.sgb_graph.proofs.InsertionRuns.{LeftOf}
use Rattle.sgb_graph.specs.Builder.{along}
use Rattle.sgb_combine.specs.Private.Pruned.{double, double_steps}
use Rattle.sgb_combine.proofs.multiply.insert_double.Given as goal

abbrev pub invariant-loop-second : goal.invariant-loop-second
invariant-loop-second l =
    LeftOf l.initial.builder (map (along l.number.0) (double_steps l.k l.first l.seconds)) l.builder
    (λ t. along l.number.0 (double l.k l.first t) ∷ []) l.seconds l.second-index
