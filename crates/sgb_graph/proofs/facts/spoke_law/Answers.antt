use Rattle.sgb_graph.proofs.Spokes.{tip_of_operand}
use Rattle.sgb_graph.proofs.facts.spoke_law.Goals as goal

pub returns : goal.returns
returns c = tip_of_operand
