use Rattle.std.proofs.Common.{refl}
use Rattle.sgb_flip.specs.Sequence.{difference}
use Rattle.sgb_flip.proofs.seeding.difference_of.Goals as goal

pub returns-clause-value : goal.returns-clause-value
unfolding difference
returns-clause-value c = refl
