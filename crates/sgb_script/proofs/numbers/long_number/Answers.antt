use Rattle.std.proofs.Common.{◌∙◌, sym}
use Rattle.sgb_script.proofs.Digits.{text_read, number_is_utf8, no_plus}
use Rattle.sgb_script.proofs.numbers.long_number.Goals as goal

pub returns-in-Ok : goal.returns-in-Ok
returns-in-Ok c = c.ok.ensures.value
    ∙ text_read c.args.word.now c.in-Ok.text.now c.parse.result c.has_plus.result c.in-Ok.ensures.cases.0 c.has_plus.ensures c.if-has_plus.false c.parse.ensures.value.0

pub returns-in-Err : goal.returns-in-Err
returns-in-Err c = sym (number_is_utf8 c.args.word.now c.in-Err.ensures.cases.0)

pub returns-then-has_plus : goal.returns-then-has_plus
returns-then-has_plus c = sym (no_plus c.args.word.now (sym c.has_plus.ensures ∙ c.if-has_plus.true))
