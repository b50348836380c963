use Rattle.std.proofs.Common.{◌-◌, length}
use Rattle.sgb_make.proofs.vector.+insert_signed.Given as goal

abbrev pub decreases-insert_signed : goal.decreases-insert_signed
decreases-insert_signed l = length l.parts.now - l.at
