use Rattle.sgb_shell.proofs.CourseSteps.{redid}
use Rattle.sgb_shell.proofs.perform.redo.Goals as goal

pub returns : goal.returns
returns c b = let e = c.redo-outcome.ensures in rw c.answer_to.ensures (redid _ _ _ b e.ok e.nothing e.no_room e.full e.refused e.err e.sound)
