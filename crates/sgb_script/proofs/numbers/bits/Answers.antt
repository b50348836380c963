use Rattle.std.proofs.Common.{◌∙◌, sym}
use Rattle.sgb_script.proofs.Digits.{bits_read, bits_are_utf8, no_plus_in_bits}
use Rattle.sgb_script.proofs.numbers.bits.Goals as goal

pub returns-in-Ok : goal.returns-in-Ok
returns-in-Ok c = c.ok.ensures.value
    ∙ bits_read c.args.digits.now c.in-Ok.text.now c.parse.result c.has_plus.result c.in-Ok.ensures.cases.0 c.has_plus.ensures c.if-has_plus.false c.parse.ensures.value.0

pub returns-in-Err : goal.returns-in-Err
returns-in-Err c = sym (bits_are_utf8 c.args.digits.now c.in-Err.ensures.cases.0)

pub returns-then-has_plus : goal.returns-then-has_plus
returns-then-has_plus c = sym (no_plus_in_bits c.args.digits.now (sym c.has_plus.ensures ∙ c.if-has_plus.true))
