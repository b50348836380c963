use Rattle.sgb_combine.proofs.SpokeLookup.{leads-lowest}
use Rattle.sgb_combine.proofs.DistinctSpokes.{places-lowest, once-lowest, least-lowest}
use Rattle.sgb_combine.proofs.facts.lowest_law.Goals as goal

pub returns-clause-same : goal.returns-clause-same
returns-clause-same c = leads-lowest

pub returns-clause-once : goal.returns-clause-once
returns-clause-once c = once-lowest

pub returns-clause-least : goal.returns-clause-least
returns-clause-least c = least-lowest

pub returns-clause-first : goal.returns-clause-first
returns-clause-first c = places-lowest
