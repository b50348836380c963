use Rattle.sgb_make.proofs.Volumes.{Multiplied}
use Rattle.sgb_make.proofs.sizes.count_of.Given as goal

abbrev pub invariant-loop-size : goal.invariant-loop-size
invariant-loop-size l = Multiplied l.sizes l.count l.size-index
