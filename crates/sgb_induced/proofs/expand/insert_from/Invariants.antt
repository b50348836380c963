use Rattle.sgb_graph.specs.Builder.{insertion}
use Rattle.sgb_graph.proofs.InsertionRuns.{LeftFrom}
use Rattle.sgb_induced.specs.Induced.{is_wanted}
use Rattle.sgb_induced.specs.Private.Run.{from_one}
use Rattle.sgb_induced.proofs.RunInsertions.{where_passing}
use Rattle.sgb_induced.proofs.expand.insert_from.Given as goal

abbrev pub invariant-loop-y : goal.invariant-loop-y
invariant-loop-y l = LeftFrom l.initial.builder (from_one l.loops l.directed l.fn.to l.fn.run l.x) l.builder (where_passing (λ y. insertion l.x y l.fn.run.len) (is_wanted l.loops l.directed l.alone l.x)) l.y l.y-end
