use Rattle.std.proofs.Common.{refl}
use Rattle.sgb_print.specs.Show.{field_text}
use Rattle.sgb_print.proofs.TextPieces.{prints_all, prints_behind, fails_early, writes_piece, fails_piece, item_and_rest, no_rest}
use Rattle.sgb_print.proofs.show.end_with_fields.Goals as goal

pub returns-in_err-print_field : goal.returns-in_err-print_field
returns-in_err-print_field g c = fails_early {X = Unit {0}} {e = c.in_err-print_field.field-0.0} _
    (fails_piece _ c.loop-name.invariant c.in_err-print_field.ensures
    (item_and_rest (λ p. field_text p.0.now p.1.now) _ c.loop-name.name-index _ _ c.loop-name-test.true c.loop-name-item.is) refl)
    c.from_residual.ensures.0

pub loop-name-preserved : goal.loop-name-preserved
loop-name-preserved g c = writes_piece c.loop-name.invariant c.in_ok-print_field.ensures
    (item_and_rest (λ p. field_text p.0.now p.1.now) _ c.loop-name.name-index _ _ c.loop-name-test.true c.loop-name-item.is)

pub returns : goal.returns
returns g c = prints_behind {X = Unit {0}} {E = Unit {0}} {x = tt}
    (prints_all c.loop-name.invariant (no_rest (λ p. field_text p.0.now p.1.now) _ c.loop-name.name-index c.loop-name-test.false)) c.put.ensures
