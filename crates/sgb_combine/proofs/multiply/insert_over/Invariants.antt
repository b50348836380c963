use Rattle.std.proofs.Common.{map}
use Rattle.std.specs.List.{flat_map}
use Rattle.sgb_graph.proofs.InsertionRuns.{LeftOf}
use Rattle.sgb_graph.specs.Builder.{along}
use Rattle.sgb_combine.specs.Private.Pruned.{double_steps, inner}
use Rattle.sgb_combine.proofs.multiply.insert_over.Given as goal

abbrev pub invariant-loop-spoke : goal.invariant-loop-spoke
invariant-loop-spoke l =
    LeftOf l.initial.builder (flat_map (λ s. map (along l.number.0) (double_steps l.k s (inner l.directed l.a l.all l.upward s))) l.outer) l.builder
    (λ s. map (along l.number.0) (double_steps l.k s (inner l.directed l.a l.all l.upward s))) l.outer l.spoke-index
