use Rattle.std.proofs.Common.{◌-◌, ◌∷◌, [], map}
use Rattle.std.specs.List.{range_with_len}
use Rattle.sgb_graph.proofs.InsertionRuns.{LeftFrom}
use Rattle.sgb_graph_tests.specs.Path.{path_step}
use Rattle.sgb_graph_tests.proofs.plan.example.insert_steps.Given as goal

abbrev pub invariant-loop-v : goal.invariant-loop-v
invariant-loop-v l = LeftFrom l.initial.builder (map path_step (range_with_len 0 (l.n - 1))) l.builder (λ v. path_step v ∷ []) l.v (l.n - 1)
