use Rattle.std.proofs.Common.{◌≡◌, replicate, take}
use Rattle.sgb_simplex.proofs.bounds.repeat_to.Given as goal

abbrev pub invariant-loop-i : goal.invariant-loop-i
invariant-loop-i l = take l.i l.places ≡ replicate l.i l.n
