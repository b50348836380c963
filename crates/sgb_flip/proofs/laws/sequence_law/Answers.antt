use Rattle.sgb_flip.proofs.Terms.{IsSequence-only, IsSequence-term}
use Rattle.sgb_flip.proofs.laws.sequence_law.Goals as goal

pub returns-clause-holds : goal.returns-clause-holds
returns-clause-holds c = IsSequence-term

pub returns-clause-only : goal.returns-clause-only
returns-clause-only c = IsSequence-only
