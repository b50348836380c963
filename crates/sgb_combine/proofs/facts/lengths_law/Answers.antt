use Rattle.sgb_combine.proofs.DrawCounts.{draws_once}
use Rattle.sgb_combine.proofs.Sources.{has_source}
use Rattle.sgb_combine.proofs.facts.lengths_law.Goals as goal

pub returns : goal.returns
returns c = record { once = draws_once; drawn = has_source }
