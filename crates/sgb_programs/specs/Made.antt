-- What is made of the words of a command line, and of saved texts.
use Rattle.std.specs.Prelude.{◌≡◌, ℕ, ◌-◌, ◌==◌, List, [], ◌∷◌, ◌++◌, codes, length, Option, Some, Result, Ok, Err, IsOkAnd, if◌then◌else◌}
use Rattle.std.specs.List.{flat_map}
use Rattle.sgb_graph.specs.Graph.{GraphOf}
use Rattle.sgb_undo.specs.Outcome.{Accepted, Refused}
use Rattle.sgb_print.specs.Meter.{WriterUse}
use Rattle.sgb_print.specs.Print.{Prints}
use Rattle.sgb_print.specs.declared.fault.RunFault.{RunFault}
use Rattle.sgb_text.specs.declared.restoring.CheckRule.{CheckRule}
use Rattle.sgb_text.specs.Clean.{clean_of}
use Rattle.sgb_text.specs.Save.{text_of}
use Rattle.sgb_script.specs.Line.{line_of}
use Rattle.sgb_script.specs.declared.command.Line.{Line}
use Rattle.sgb_script.specs.declared.command.Line.TheVariants.{Change}
use Rattle.sgb_script.specs.declared.command.Command.TheVariants as commands
use Rattle.sgb_script.specs.declared.command.Single.{Single}
use Rattle.sgb_script.specs.declared.command.Single.TheVariants.{Make}
use Rattle.sgb_script.specs.declared.command.Maker.TheVariants.{Load}
use Rattle.sgb_script.specs.declared.refusal.ShellRefusal.{ShellRefusal}
use Rattle.sgb_script.specs.declared.refusal.ShellRefusal.TheVariants.{ScriptSyntax}
use Rattle.sgb_session.specs.Command.{CommandOutcome, step}
use Rattle.sgb_session.specs.State.{State, empty}
use Rattle.sgb_session.specs.Table.{graph_in}
use Rattle.sgb_programs.specs.Ends.{UnlessNoRoom}
use Rattle.sgb_programs.specs.declared.operand.Operands.{Operands}
use Rattle.sgb_programs.specs.declared.operand.Operands.TheVariants.{Absent, One, Two, Described, Changed}

-- what stands between a command and its words: the names of the graph that is made and of those that are loaded, and a
-- description in quotes
abbrev pub front_of : Operands → List ℕ
front_of Absent = codes " g"
front_of (One text) = codes " g a"
front_of (Two first second) = codes " g a b"
front_of (Described text description) = codes " g a \"" ++ description ++ codes "\""
front_of (Changed text) = codes " a"

-- a command with its words, as a line of a script
unfoldable pub made_line : List ℕ → Operands → List (List ℕ) → List ℕ
made_line command operands words = command ++ front_of operands ++ flat_map (λ word. 32 ∷ word) words

-- a text is loaded under a name
abbrev pub load : CheckRule → List ℕ → List ℕ → Single
load rule name text = Make name (Load text rule)

abbrev pub loads : CheckRule → Operands → List Single
loads rule Absent = []
loads rule (One text) = load rule (codes "a") text ∷ []
loads rule (Two first second) = load rule (codes "a") first ∷ load rule (codes "b") second ∷ []
loads rule (Described text description) = load rule (codes "a") text ∷ []
loads rule (Changed text) = load rule (codes "a") text ∷ []

-- the session after a command, or its refusal
abbrev pub session_after : CommandOutcome → Result State ShellRefusal
session_after (Accepted s d reply) = Ok s
session_after (Refused r) = Err r

-- a session that begins with the texts, or the refusal of the first that is refused
unfoldable pub loaded : CheckRule → Operands → Result State ShellRefusal
loaded rule operands = session_after (step empty (commands.Group (loads rule operands)))

-- the last graph of a session
abbrev pub last_graph : Result State ShellRefusal → Result GraphOf ShellRefusal
last_graph (Ok s) = if length s.table == 0 then Err ScriptSyntax else Ok (graph_in s.table (length s.table - 1))
last_graph (Err r) = Err r

-- what a line makes in a session
abbrev pub made_by : Result State ShellRefusal → Option Line → Result GraphOf ShellRefusal
made_by (Ok s) (Some (Change c)) = last_graph (session_after (step s (commands.One c)))
made_by (Ok s) line = Err ScriptSyntax
made_by (Err r) line = Err r

unfoldable pub made_of : CheckRule → Operands → List ℕ → List (List ℕ) → Result GraphOf ShellRefusal
made_of rule operands command words = made_by (loaded rule operands) (line_of (made_line command operands words))

-- the saved text of the graph is printed, or the refusal is the answer and nothing is written
abbrev pub Makes : {W : Type 0} → Result GraphOf ShellRefusal → WriterUse W → WriterUse W → Result (Result (Unit {0}) ShellRefusal) RunFault → Type 0
Makes made old new (Ok (Err r)) = (made ≡ Err r) × (new ≡ old)
Makes made old new result = UnlessNoRoom old new result (IsOkAnd made (λ g. Prints old new result (text_of (clean_of g))))
