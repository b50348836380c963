use Rattle.sgb_graph.proofs.Reverts.{reverted_is}
use Rattle.sgb_graph.proofs.facts.revert_law.Goals as goal

pub returns : goal.returns
returns c = record { met = reverted_is }
