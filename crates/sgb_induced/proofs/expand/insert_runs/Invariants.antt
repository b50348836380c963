use Rattle.std.specs.List.{flat_map}
use Rattle.sgb_graph.proofs.InsertionRuns.{LeftOf}
use Rattle.sgb_induced.specs.Private.Run.{expanded}
use Rattle.sgb_induced.proofs.expand.insert_runs.Given as goal

abbrev pub invariant-loop-run : goal.invariant-loop-run
invariant-loop-run l = LeftOf l.initial.builder (flat_map (expanded l.loops l.directed l.images) l.runs) l.builder (expanded l.loops l.directed l.images) l.runs l.run-index
