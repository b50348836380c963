use Rattle.sgb_graph.proofs.Loopless.{AreNoLoops}
use Rattle.sgb_graph.proofs.graph.Graph.has_no_loops.Given as goal

abbrev pub invariant-loop-number : goal.invariant-loop-number
invariant-loop-number l = AreNoLoops l.self l.number
