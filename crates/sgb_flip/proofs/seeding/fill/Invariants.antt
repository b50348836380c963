use Rattle.std.proofs.Common.{◌≡◌, ◌-◌, ◌*◌, ◌%◌, ◌<◌, ◌^◌}
use Rattle.sgb_flip.specs.Generator.{rotated_by, seed_term}
use Rattle.sgb_flip.proofs.Seeds.{ArePlaced}
use Rattle.sgb_flip.proofs.seeding.fill.Given as goal

abbrev pub invariant-loop-j : goal.invariant-loop-j
invariant-loop-j l = record {
  place : l.place ≡ 21 * l._j % 55;
  placed : ArePlaced l.number l._j l.words;
  turned : l.turned ≡ rotated_by l.number (l._j - 1);
  before : l.before ≡ seed_term l.number (l._j - 1);
  term : l.term ≡ seed_term l.number l._j;
  turned_small : l.turned < 2 ^ 31;
  before_small : l.before < 2 ^ 31;
  term_small : l.term < 2 ^ 31;
}
