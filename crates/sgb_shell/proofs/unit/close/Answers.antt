use Rattle.sgb_shell.specs.Unit.{closed_by}
use Rattle.sgb_shell.proofs.CourseSteps.{closed_does, refusal_does}
use Rattle.sgb_shell.proofs.unit.close.Goals as goal

pub returns-in-Ok : goal.returns-in-Ok
returns-in-Ok c u l held ends i b = closed_does _ _ (closed_by u l) c.in-Ok.command _ (c.in-Ok.ensures u l held ends i) (c.change.ensures b)

pub returns-in-Err : goal.returns-in-Err
returns-in-Err c u l held ends i b = refusal_does _ (closed_by u l) _ b (c.in-Err.ensures u l held ends i)
