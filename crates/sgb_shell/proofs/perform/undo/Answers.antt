use Rattle.sgb_shell.proofs.CourseSteps.{undid}
use Rattle.sgb_shell.proofs.perform.undo.Goals as goal

pub returns-in-Ok : goal.returns-in-Ok
returns-in-Ok c b = undid _ _ b c.in-Ok.ensures.ok c.in-Ok.ensures.sound
