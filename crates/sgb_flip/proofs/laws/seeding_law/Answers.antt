use Rattle.sgb_flip.proofs.Seeds.{IsSeeding-only, IsSeeding-seed_words}
use Rattle.sgb_flip.proofs.laws.seeding_law.Goals as goal

pub returns-clause-holds : goal.returns-clause-holds
returns-clause-holds c = IsSeeding-seed_words

pub returns-clause-only : goal.returns-clause-only
returns-clause-only c = IsSeeding-only
