use Rattle.sgb_shell.proofs.CourseSteps.{changed}
use Rattle.sgb_shell.proofs.perform.change.Goals as goal

pub returns : goal.returns
returns c b = let e = c.apply-outcome.ensures in rw c.answer_to.ensures (changed _ _ _ _ b e.ok e.no_room e.full e.nothing e.refused e.err e.sound)
