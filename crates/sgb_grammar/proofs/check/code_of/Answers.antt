use Rattle.std.proofs.Common.{◌≡◌, true, refl, arith}
use Rattle.sgb_grammar.specs.declared.check.TheConstants.{CODES}
use Rattle.sgb_grammar.specs.Check.{code_of}
use Rattle.sgb_grammar.proofs.LineWeights.{same_codes, code_in}
use Rattle.sgb_grammar.proofs.check.code_of.Goals as goal

the_table : same_codes CODES 256 ≡ true
unfolding code_of
the_table = refl

pub returns : goal.returns
returns c = code_in CODES 256 c.args.byte the_table (omega arith)
