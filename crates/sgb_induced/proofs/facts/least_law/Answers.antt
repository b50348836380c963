use Rattle.sgb_induced.proofs.FirstInsertions.{least_is}
use Rattle.sgb_induced.proofs.facts.least_law.Goals as goal

pub returns : goal.returns
returns c = least_is
