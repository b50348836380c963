use Rattle.std.proofs.Common.{◌≡◌, ◌++◌, drop}
use Rattle.sgb_make.specs.Board.{sides_of}
use Rattle.sgb_make.proofs.Volumes.{sides_from}
use Rattle.sgb_make.proofs.sizes.sides_of.Given as goal

abbrev pub invariant-loop-k : goal.invariant-loop-k
invariant-loop-k l = l.sides.items ++ sides_from l.fn.wrap l.k (drop l.k l.sizes) ≡ sides_of l.fn.wrap l.sizes
