use Rattle.std.proofs.Common.{◌<◌, ℕ}
use Rattle.sgb_make.specs.Private.Still.{IsStillAt}
use Rattle.sgb_make.proofs.vector.are_still.Given as goal

abbrev pub invariant-loop-k : goal.invariant-loop-k
invariant-loop-k l = (j : ℕ) → j < l.k → IsStillAt l.sides l.parts l.at j
