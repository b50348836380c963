use Rattle.sgb_graph.proofs.FieldValues.{FilledFrom}
use Rattle.sgb_graph.proofs.graph.Graph.fill_vertices.Given as goal

abbrev pub invariant-loop-part : goal.invariant-loop-part
invariant-loop-part l = FilledFrom l.fn.vertices.items l.vertices.items l.fn.self l.self

abbrev pub decreases-loop-part : goal.decreases-loop-part
decreases-loop-part l = goal.left-loop-part l
