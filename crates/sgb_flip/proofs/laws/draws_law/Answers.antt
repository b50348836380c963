use Rattle.std.proofs.Common.{refl, sym}
use Rattle.sgb_flip.proofs.Draws.{after-after, after-none, after-only, drawn-after, next_read, next_refilled}
use Rattle.sgb_flip.specs.Sequence.{terms_after}
use Rattle.sgb_flip.proofs.laws.draws_law.Goals as goal

pub returns-clause-none : goal.returns-clause-none
returns-clause-none c = after-none

pub returns-clause-more : goal.returns-clause-more
returns-clause-more c = after-after

pub returns-clause-number : goal.returns-clause-number
returns-clause-number c = drawn-after

pub returns-clause-read : goal.returns-clause-read
returns-clause-read c w is some =
    let step = next_read w.words w.unread w refl is.count some is.few in
    (sym step.0, sym step.1)

pub returns-clause-refilled : goal.returns-clause-refilled
returns-clause-refilled c w none =
    let step = next_refilled w.words (terms_after w.words 55) w.unread w refl none refl in
    (sym step.0, sym step.1)

pub returns-clause-only : goal.returns-clause-only
returns-clause-only c = after-only
