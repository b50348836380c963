use Rattle.sgb_graph.proofs.LinkedParts.{graph_tells}
use Rattle.sgb_graph.proofs.facts.sound_law.Goals as goal

pub returns : goal.returns
returns c = graph_tells
