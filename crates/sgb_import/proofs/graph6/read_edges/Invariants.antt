use Rattle.sgb_import.specs.Private.Pairs.{AreRead}
use Rattle.sgb_import.proofs.graph6.read_edges.Given as goal

abbrev pub invariant-loop-k : goal.invariant-loop-k
invariant-loop-k l = AreRead l.fn.size l.body l.k l.pair l.links.items
