use Rattle.sgb_make.proofs.SizeMultiples.{ride_ends}
use Rattle.sgb_make.proofs.law.ride_law.Goals as goal

pub returns : goal.returns
returns c = λ sides v. ride_ends sides v
