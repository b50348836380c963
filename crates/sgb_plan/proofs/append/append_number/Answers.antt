use Rattle.sgb_plan.proofs.Shorts.{IsShort-signed}
use Rattle.sgb_plan.proofs.append.append_number.Goals as goal

pub returns-clause-short : goal.returns-clause-short
returns-clause-short c = IsShort-signed c.args.number c.ranges.number.sfits
