use Rattle.std.specs.List.{flat_map}
use Rattle.sgb_graph.proofs.InsertionRuns.{LeftFrom}
use Rattle.sgb_induced.specs.Private.Run.{from_one, numbers}
use Rattle.sgb_induced.proofs.expand.insert_between.Given as goal

abbrev pub invariant-loop-x : goal.invariant-loop-x
invariant-loop-x l = LeftFrom l.initial.builder (flat_map (from_one l.loops l.directed l.fn.to l.run) (numbers l.fn.from)) l.builder (from_one l.loops l.directed l.fn.to l.run) l.x l.x-end
