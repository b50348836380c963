use Rattle.std.proofs.Common.{refl, inl}
use Rattle.sgb_script.specs.declared.refusal.ShellRefusal.TheVariants.{ScriptSyntax}
use Rattle.sgb_script.specs.Line.{line_of}
use Rattle.sgb_shell.proofs.LineBytes.{long_line}
use Rattle.sgb_shell.proofs.CourseSteps.{refused_does}
use Rattle.sgb_shell.proofs.unit.answer_line.Goals as goal

pub returns-in-None : goal.returns-in-None
returns-in-None c l held begun = refused_does _ (line_of l) ScriptSyntax begun (inl (refl, long_line l (c.in-None.ensures l held)))
