use Rattle.std.proofs.Common.{◌∙◌}
use Rattle.sgb_import.proofs.NumberWords.{length_minus, length_plain}
use Rattle.sgb_import.proofs.number.length.Goals as goal

pub returns-in-Some : goal.returns-in-Some
returns-in-Some c = c.negative.ensures ∙ length_minus c.args.word.now c.in-Some.digits.now c.in-Some.ensures

pub returns-in-None : goal.returns-in-None
returns-in-None c = c.positive.ensures ∙ length_plain c.args.word.now c.in-None.ensures
