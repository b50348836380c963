use Rattle.std.proofs.Common.{◌∙◌, sym}
use Rattle.sgb_script.proofs.Digits.{index_is, no_index}
use Rattle.sgb_script.proofs.numbers.index.Goals as goal

pub returns-then-has_minus : goal.returns-then-has_minus
returns-then-has_minus c = sym (no_index c.args.digits.now (sym c.has_minus.ensures ∙ c.if-has_minus.true))

pub returns : goal.returns
returns c = c.number.ensures ∙ index_is c.args.digits.now (sym c.has_minus.ensures ∙ c.if-has_minus.false)
