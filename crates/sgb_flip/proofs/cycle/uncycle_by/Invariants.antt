use Rattle.std.proofs.Common.{◌≡◌, ◌*◌}
use Rattle.sgb_flip.specs.Private.Halves.{AreHalves, whole}
use Rattle.sgb_flip.specs.Sequence.{terms_after}
use Rattle.sgb_flip.proofs.cycle.uncycle_by.Given as goal

abbrev pub invariant-loop-turn : goal.invariant-loop-turn
invariant-loop-turn l = record {
  halves : AreHalves l.low l.high;
  batch : terms_after (whole l.low l.high) (55 * l._turn) ≡ l.initial.words;
}
