use Rattle.std.proofs.Common.{◌≡◌, map, min, take}
use Rattle.sgb_simplex.proofs.bounds.cut_to.Given as goal

abbrev pub invariant-loop-i : goal.invariant-loop-i
invariant-loop-i l = take l.i l.places ≡ map (λ b. min b l.n) (take l.i l.list)
