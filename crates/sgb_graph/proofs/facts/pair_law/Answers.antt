use Rattle.sgb_graph.proofs.Halves.{pair_decides}
use Rattle.sgb_graph.proofs.facts.pair_law.Goals as goal

pub returns : goal.returns
returns c = pair_decides
