use Rattle.std.proofs.Common.{◌≡◌, ◌*◌, length}
use Rattle.sgb_flip.specs.Generator.{AreSmall}
use Rattle.sgb_flip.specs.Sequence.{terms_after}
use Rattle.sgb_flip.proofs.cycle.cycle_by.Given as goal

abbrev pub invariant-loop-turn : goal.invariant-loop-turn
invariant-loop-turn l = record {
  count : length l.words ≡ 55;
  batch : l.words ≡ terms_after l.initial.words (55 * l._turn);
  small : AreSmall l.words;
}
