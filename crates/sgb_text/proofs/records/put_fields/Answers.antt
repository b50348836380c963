use Rattle.std.proofs.Common.{◌+◌, ap, arith, refl}
use Rattle.sgb_text.proofs.Fields.{fills_value, filled_page}
use Rattle.sgb_text.proofs.records.put_fields.Goals as goal

pub fields-preserved : goal.fields-preserved
fields-preserved c =
    fills_value _ _ _ c.args.letters.now _ c.args.values.now c.fields.i _ _ _ _ _ _ c.index-values-i.is c.index-values-i-in-fields.is c.fields-test.true c.requires c.fields.invariant
    c.split_at.ensures.back refl c.in_ok-put_field.ensures (ap (λ k. c.fields.cleaned + k) c.dirt_in-cleaned.ensures)

pub returns-clause-record : goal.returns-clause-record
returns-clause-record c = filled_page _ _ _ c.args.letters.now c.args.values.now c.fields.i _ (omega (arith, c.fields-test.false)) c.requires c.fields.invariant c.in_ok-line.ensures
