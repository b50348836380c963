use Rattle.std.proofs.Common.{length}
use Rattle.sgb_make.proofs.vector.+count_steps.Given as goal

abbrev pub decreases-count_steps : goal.decreases-count_steps
decreases-count_steps l = length l.sides.now

abbrev pub invariant-loop-part : goal.invariant-loop-part
invariant-loop-part l = Unit {0}
