use Rattle.std.proofs.Common.{refl}
use Rattle.sgb_random.specs.Private.Table.{first_place}
use Rattle.sgb_random.proofs.pairs.first_place.Goals as goal

pub returns : goal.returns
unfolding first_place
returns c = refl
