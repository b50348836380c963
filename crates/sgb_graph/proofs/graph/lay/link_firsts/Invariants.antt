use Rattle.sgb_graph.specs.Private.Lay.{FirstsBelow}
use Rattle.sgb_graph.proofs.graph.lay.link_firsts.Given as goal

abbrev pub invariant-loop-vertex : goal.invariant-loop-vertex
invariant-loop-vertex l = FirstsBelow l.fn.vertices l.parts l.vertex l.vertices
