use Rattle.std.proofs.Common.{None}
use Rattle.sgb_graph.specs.Private.SameRows.{slot_eq}
use Rattle.sgb_graph.proofs.SameRows.{SameBelow}
use Rattle.sgb_graph.proofs.graph.arena.Arena.is_same.Given as goal

abbrev pub invariant-loop-index : goal.invariant-loop-index
invariant-loop-index l = SameBelow slot_eq None l.self l.other l.index
