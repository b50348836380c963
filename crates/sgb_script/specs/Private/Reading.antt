-- The results of the functions that read a line.
use Rattle.std.specs.Prelude.{◌≡◌, Bool, true, false, ◌⊎◌, IsTrue, Option, None, Some, Result, Ok, Err}
use Rattle.sgb_graph.specs.declared.field.Util.{Util}
use Rattle.sgb_graph.specs.declared.field.Util.TheVariants as utils
use Rattle.sgb_script.specs.declared.command.Line.{Line}
use Rattle.sgb_script.specs.declared.refusal.ShellRefusal.{ShellRefusal}
use Rattle.sgb_script.specs.declared.refusal.ShellRefusal.TheVariants.{NoRoom, ScriptSyntax}
use Rattle.sgb_script.specs.Line.{takes_memory}

-- whether a value is a text
abbrev pub is_text : Option Util → Bool
is_text None = false
is_text (Some utils.Zero) = false
is_text (Some (utils.Int z)) = false
is_text (Some (utils.Vertex k)) = false
is_text (Some (utils.Arc k)) = false
is_text (Some (utils.Text t)) = true

-- the line that was meant, 100 if there is none, or 1 if it has a text
abbrev pub Reads : Option Line → Result Line ShellRefusal → Type 0
Reads meant (Ok line) = meant ≡ Some line
Reads meant (Err e) = ((e ≡ ScriptSyntax) × (meant ≡ None)) ⊎ ((e ≡ NoRoom) × IsTrue (takes_memory meant))
