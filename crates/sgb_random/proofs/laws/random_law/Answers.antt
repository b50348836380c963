use Rattle.std.proofs.Common.{pos, int_le}
use Rattle.sgb_random.proofs.Refusals.{true_from_T}
use Rattle.sgb_random.proofs.PairsOnce.{once_course}
use Rattle.sgb_random.proofs.InsertionCounts.{plan_fits}
use Rattle.sgb_random.proofs.laws.random_law.Goals as goal

pub returns-clause-once : goal.returns-clause-once
returns-clause-once c = λ s w most. once_course s w (true_from_T (int_le s.multi (pos 0)) most.le)

pub returns-clause-fits : goal.returns-clause-fits
returns-clause-fits c = plan_fits
