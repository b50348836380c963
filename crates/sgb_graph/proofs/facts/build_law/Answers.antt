use Rattle.sgb_graph.proofs.ArcOwners.{builds_one}
use Rattle.sgb_graph.proofs.facts.build_law.Goals as goal

pub returns : goal.returns
returns c = record { one = builds_one }
