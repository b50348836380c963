use Rattle.std.proofs.Common.{refl}
use Rattle.sgb_flip.specs.Generator.{rotated}
use Rattle.sgb_flip.proofs.seeding.rotated_once.Goals as goal

pub returns-clause-turned : goal.returns-clause-turned
unfolding rotated
returns-clause-turned c = refl
