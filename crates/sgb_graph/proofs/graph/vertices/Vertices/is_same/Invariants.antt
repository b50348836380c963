use Rattle.sgb_graph.specs.Private.Link.{any_vertex}
use Rattle.sgb_graph.specs.Private.SameRows.{row_eq}
use Rattle.sgb_graph.proofs.SameRows.{SameBelow}
use Rattle.sgb_graph.proofs.graph.vertices.Vertices.is_same.Given as goal

abbrev pub invariant-loop-index : goal.invariant-loop-index
invariant-loop-index l = SameBelow row_eq any_vertex l.self l.other l.index
