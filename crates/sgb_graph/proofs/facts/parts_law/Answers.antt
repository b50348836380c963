use Rattle.sgb_graph.proofs.LinkedParts.{built_some, some_built}
use Rattle.sgb_graph.proofs.facts.parts_law.Goals as goal

pub returns : goal.returns
returns c = record { some = built_some; built = some_built }
