use Rattle.std.proofs.Common.{length, ap, arith}
use Rattle.sgb_make.proofs.vector.+count_steps.Goals as goal

pub count_steps-behind-requires : goal.count_steps-behind-requires
count_steps-behind-requires t c = (omega (arith, ap length c.in-Some.ensures.cases.0), omega (arith, c.requires))
