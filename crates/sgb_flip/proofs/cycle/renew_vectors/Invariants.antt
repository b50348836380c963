use Rattle.std.proofs.Common.{◌*◌}
use Rattle.sgb_flip.specs.Generator.{AreSmall}
use Rattle.sgb_flip.specs.Private.Run.{IsRun}
use Rattle.sgb_flip.specs.Sequence.{difference}
use Rattle.sgb_flip.proofs.cycle.renew_vectors.Given as goal

abbrev pub invariant-loop-k : goal.invariant-loop-k
invariant-loop-k l = record {
  run : IsRun difference l.at l.from (8 * l.k) l.initial.words l.words;
  small : AreSmall l.words;
}
