use Rattle.std.proofs.Common.{◌∷◌, [], map}
use Rattle.sgb_graph.proofs.InsertionRuns.{LeftOf}
use Rattle.sgb_combine.specs.Complement.{unit_step}
use Rattle.sgb_combine.proofs.negate.insert_steps.Given as goal

abbrev pub invariant-loop-tip : goal.invariant-loop-tip
invariant-loop-tip l = LeftOf l.initial.builder (map (unit_step l.vertex.0) l.tips) l.builder (λ w. unit_step l.vertex.0 w ∷ []) l.tips l.tip-index
