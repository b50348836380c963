use Rattle.std.proofs.Common.{arith}
use Rattle.sgb_plan.proofs.Shorts.{IsShort-hexadecimal}
use Rattle.sgb_plan.proofs.append.append_bits.Goals as goal

pub returns-in_err-digits-clause-short : goal.returns-in_err-digits-clause-short
returns-in_err-digits-clause-short c = IsShort-hexadecimal c.args.bits (omega arith)

pub returns-clause-short : goal.returns-clause-short
returns-clause-short c = IsShort-hexadecimal c.args.bits (omega arith)
