use Rattle.sgb_random.specs.Private.Table.{IsPassed}
use Rattle.sgb_random.proofs.pairs.find.Given as goal

abbrev pub invariant-loop-place : goal.invariant-loop-place
invariant-loop-place l = IsPassed l.slots l.slot l.first l.place
