use Rattle.std.proofs.Common.{◌-◌, length}
use Rattle.sgb_make.proofs.Advances.{Counted}
use Rattle.sgb_make.proofs.position.advance.Given as goal

abbrev pub invariant-loop-done : goal.invariant-loop-done
invariant-loop-done l = Counted l.sides l.initial.position l.position (length l.sides - l.done)
