use Rattle.std.proofs.Common.{subst, inl, inr}
use Rattle.sgb_shell.specs.Private.Performing.{Answers}
use Rattle.sgb_shell.proofs.CourseSteps.{read_does, changed_does, refused_does, asked_does, load_does, other_does}
use Rattle.sgb_shell.proofs.perform.perform.Goals as goal

pub returns-in-Ok-Change : goal.returns-in-Ok-Change
returns-in-Ok-Change c b = read_does _ _ _ _ _ _ c.in-Ok-Change.ensures.ok c.in-Ok-Change.field-0-is (changed_does _ _ _ _ (c.change.ensures b))

pub returns-in-Ok-Query : goal.returns-in-Ok-Query
returns-in-Ok-Query c b =
    read_does _ _ _ _ _ _ c.in-Ok-Query.ensures.ok c.in-Ok-Query.field-0-is
    (asked_does _ c.in-Ok-Query.query _ b (subst (λ s. Answers s c.in-Ok-Query.query c.ask.result) c.machine.ensures.value c.ask.ensures))

pub returns-in-Ok-Load : goal.returns-in-Ok-Load
returns-in-Ok-Load c b = load_does _ _ _ _ _ c.in-Ok-Load.ensures.ok c.in-Ok-Load.field-0-is b

pub returns-in-Ok-Group : goal.returns-in-Ok-Group
returns-in-Ok-Group c b = other_does _ _ _ c.in-Ok-Group.ensures.ok (inl c.in-Ok-Group.field-0-is) b

pub returns-in-Ok-End : goal.returns-in-Ok-End
returns-in-Ok-End c b = other_does _ _ _ c.in-Ok-End.ensures.ok (inr c.in-Ok-End.field-0-is) b

pub returns-in-Err : goal.returns-in-Err
returns-in-Err c b = refused_does _ _ _ b c.in-Err.ensures.err
