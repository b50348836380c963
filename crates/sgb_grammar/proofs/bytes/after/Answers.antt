use Rattle.std.proofs.Common.{refl}
use Rattle.sgb_grammar.proofs.Words.{stripped, not_stripped}
use Rattle.sgb_grammar.proofs.bytes.after.Goals as goal

pub returns-in-Some : goal.returns-in-Some
returns-in-Some c = stripped c.args.word.now c.args.bytes.now c.in-Some.rest c.in-Some.ensures.cases

pub returns-in-None : goal.returns-in-None
returns-in-None c = (refl, not_stripped c.args.word.now c.args.bytes.now c.in-None.ensures.cases)
