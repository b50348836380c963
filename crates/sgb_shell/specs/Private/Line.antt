-- A line as it is handed to its unit.
use Rattle.std.specs.Prelude.{◌≡◌, ℕ, true, false, List}
use Rattle.sgb_shell.specs.declared.line.ScriptLine.{ScriptLine}
use Rattle.sgb_shell.specs.declared.line.ScriptLine.TheVariants.{Whole, Long}
use Rattle.sgb_shell.specs.Private.Holding.{front_of, is_above}

-- it is this line that is handed on, or of a long one how it begins
abbrev pub IsLine : List ℕ → ScriptLine → Type 0
IsLine line (Whole bytes) = (bytes.now ≡ line) × (is_above line ≡ false)
IsLine line (Long first) = (first.now ≡ front_of line) × (is_above line ≡ true)
