use Rattle.std.proofs.Common.{length}
use Rattle.sgb_graph.proofs.FieldValues.{ArcsFilledFrom}
use Rattle.sgb_graph.proofs.graph.Graph.fill_arcs.Given as goal

abbrev pub invariant-loop-part : goal.invariant-loop-part
invariant-loop-part l = ArcsFilledFrom l.fn.arcs.items l.arcs.items l.fn.self l.self

abbrev pub decreases-loop-part : goal.decreases-loop-part
decreases-loop-part l = length l.arcs.items
