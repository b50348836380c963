-- What a script is answered.
use Rattle.std.specs.Prelude.{ℕ, ◌+◌, ◌==◌, Bool, true, false, not, if◌then◌else◌, List, [], ◌∷◌, ◌++◌, length, Option, None, Some, ◌&&◌, ◌||◌, unwrap_or, fold as fold_list}
use Rattle.std.specs.List.{list_any}
use Rattle.sgb_graph.specs.Graph.{GraphOf}
use Rattle.sgb_undo.specs.Outcome.{Accepted, Refused}
use Rattle.sgb_undo.specs.Replay.{fold}
use Rattle.sgb_undo.specs.History.{grows_at}
use Rattle.sgb_script.specs.declared.command.Single.{Single}
use Rattle.sgb_script.specs.declared.command.Single.TheVariants.{Make}
use Rattle.sgb_script.specs.declared.command.Maker.TheVariants as makers
use Rattle.sgb_script.specs.declared.command.Query.{Query}
use Rattle.sgb_script.specs.declared.command.Query.TheVariants as queries
use Rattle.sgb_script.specs.declared.command.Line.{Line}
use Rattle.sgb_script.specs.declared.command.Line.TheVariants.{Nothing, Change, Undo, Redo, Load, Group, End}
use Rattle.sgb_script.specs.declared.command.Line.TheVariants as asks
use Rattle.sgb_shell.specs.declared.answer.Answer.{Answer}
use Rattle.sgb_shell.specs.declared.answer.Answer.TheVariants as answers
use Rattle.sgb_script.specs.declared.refusal.ShellRefusal.TheVariants.{NoRoom, NoGraph, ScriptSyntax, NothingToUndo, NothingToRedo, JournalFull}
use Rattle.sgb_shell.specs.Answer.{answer_text}
use Rattle.sgb_script.specs.Line.{line_of, has_text}
use Rattle.sgb_shell.specs.Group.{commands_in}
use Rattle.sgb_shell.specs.Lines.{all_but_last, whole_lines, lines}
use Rattle.sgb_shell.specs.Units.{units, all_units}
use Rattle.sgb_shell.specs.Unit.{ScriptUnit, takes_text, takes_members, is_whole, text_in}
use Rattle.sgb_text.specs.declared.saving.Saved.{Saved}
use Rattle.sgb_text.specs.Clean.{clean_of, dirt_of}
use Rattle.sgb_text.specs.Save.{text_of}
use Rattle.sgb_script.specs.declared.command.Command.{Command}
use Rattle.sgb_script.specs.declared.command.Command.TheVariants as commands
use Rattle.sgb_session.specs.Command.{CommandOutcome, step, may_want}
use Rattle.sgb_session.specs.State.{State, empty}
use Rattle.sgb_session.specs.Table.{find, graph_in}

-- the commands that stand, and those that are undone, the next to redo first
pub record Lists : Type 0 where
  pub standing : List Command
  pub undone : List Command

-- the state that commands give, one after another, from the empty session
abbrev pub state_of : List Command → State
state_of cs = unwrap_or (fold step empty cs) empty

-- the lists after a unit, and what it is answered
abbrev pub Told : Type 0
Told = Lists × Answer

-- an accepted command leaves other lists; a refused one leaves all as it was
abbrev pub answered : Lists → Lists → CommandOutcome → Told
answered l accepted (Accepted s delta reply) = (accepted, answers.Replied reply)
answered l accepted (Refused r) = (l, answers.Refused r)

-- a command stands last, and nothing is undone any more
abbrev pub with_command : Lists → Command → Lists
with_command l c = record { standing = l.standing ++ c ∷ []; undone = [] }

abbrev pub are_none : List Command → Bool
are_none [] = true
are_none (c ∷ cs) = false

-- whether the journal takes memory for one command more
abbrev pub grows : Lists → Bool
grows l = are_none l.undone && grows_at (length l.standing)

-- a command by itself has its text read first; those of a group are read with its lines
abbrev pub has_its_text : Command → Bool
has_its_text (commands.One c) = has_text (Change c)
has_its_text (commands.Group cs) = false

-- A command, or a group. Its text takes memory before the journal is asked; the journal may grow for it, and then its
-- step may want for memory.
abbrev pub changing : Bool → Lists → Command → Told
changing no_room l c =
    if no_room && has_its_text c then (l, answers.Refused NoRoom)
    else (if length l.standing == 65535 then (l, answers.Refused JournalFull)
    else (if no_room && (grows l || may_want (state_of l.standing) c) then (l, answers.Refused NoRoom)
    else answered l (with_command l c) (step (state_of l.standing) c)))

abbrev pub last_command : List Command → Option Command
last_command [] = None
last_command (c ∷ []) = Some c
last_command (c ∷ d ∷ ds) = last_command (d ∷ ds)

-- the last standing command becomes the first undone one
abbrev pub undoing : Lists → Option Command → Told
undoing l None = (l, answers.Refused NothingToUndo)
undoing l (Some c) = (record { standing = all_but_last l.standing; undone = c ∷ l.undone }, answers.Undone)

-- the first undone command stands last
abbrev pub redoing : Bool → List Command → List Command → Told
redoing no_room standing [] = (record { standing = standing; undone = [] }, answers.Refused NothingToRedo)
redoing no_room standing (c ∷ cs) =
    let l : Lists = record { standing = standing; undone = c ∷ cs } in
    if no_room && may_want (state_of standing) c then (l, answers.Refused NoRoom)
    else answered l (record { standing = standing ++ c ∷ []; undone = cs }) (step (state_of standing) c)

abbrev pub shown_or_refused : Option ℕ → Answer
shown_or_refused None = answers.Refused NoGraph
shown_or_refused (Some i) = answers.Graph i

-- a graph as a saved text, and the count of its values that their letters do not allow
abbrev pub saved_of : GraphOf → Saved
saved_of g = record { text = text_of (clean_of g); cleaned = dirt_of g }

abbrev pub saved_or_refused : Bool → State → Option ℕ → Answer
saved_or_refused no_room s None = answers.Refused NoGraph
saved_or_refused no_room s (Some i) = if no_room then answers.Refused NoRoom else answers.Saved (saved_of (graph_in s.table i))

-- what a question is answered; of all of them a saved text alone takes memory
abbrev pub asked_of : Bool → State → Query → Answer
asked_of no_room s queries.Gen = answers.Generator
asked_of no_room s queries.List = answers.Graphs
asked_of no_room s (queries.Show name) = shown_or_refused (find s.table name)
asked_of no_room s (queries.Save name) = saved_or_refused no_room s (find s.table name)

-- What a line does that is a unit of its own. Want of memory touches only a command and a redo that may want for it, a
-- command for which the journal grows, and a saved text.
abbrev pub line_told : Bool → Lists → Option Line → Told
line_told no_room l None = (l, answers.Refused ScriptSyntax)
line_told no_room l (Some Nothing) = (l, answers.Silent)
line_told no_room l (Some (Change c)) = changing no_room l (commands.One c)
line_told no_room l (Some Undo) = undoing l (last_command l.standing)
line_told no_room l (Some Redo) = redoing no_room l.standing l.undone
line_told no_room l (Some (asks.Query q)) = (l, asked_of no_room (state_of l.standing) q)
line_told no_room l (Some (Load name rule)) = (l, answers.Refused ScriptSyntax)
line_told no_room l (Some Group) = (l, answers.Refused ScriptSyntax)
line_told no_room l (Some End) = (l, answers.Refused ScriptSyntax)

-- What a unit with a text does: where its first line is good the text is gathered, which may want for memory, and where
-- the text is whole it makes a graph.
abbrev pub load_told : Bool → Lists → Option Line → ScriptUnit → Told
load_told no_room l (Some (Load name rule)) u =
    if no_room && not (length u.inner == 0) then (l, answers.Refused NoRoom)
    else (if is_whole u then changing no_room l (commands.One (Make name (makers.Load (text_in u) rule)))
    else (l, answers.Refused ScriptSyntax))
load_told no_room l line u = (l, answers.Refused ScriptSyntax)

-- the commands of a group are performed as one, where there are no faults
abbrev pub grouping : Bool → Lists → Option (List Single) → Told
grouping no_room l None = (l, answers.Refused ScriptSyntax)
grouping no_room l (Some cs) = changing no_room l (commands.Group cs)

-- what a group does: where its first line is good its members are gathered, which may want for memory
abbrev pub group_told : Bool → Lists → Option Line → ScriptUnit → Told
group_told no_room l (Some Group) u =
    if no_room && not (length u.inner == 0) then (l, answers.Refused NoRoom) else grouping no_room l (commands_in u)
group_told no_room l line u = (l, answers.Refused ScriptSyntax)

abbrev pub unit_told : Bool → Lists → ScriptUnit → Told
unit_told no_room l u =
    if takes_text u.first then load_told no_room l (line_of u.first) u
    else (if takes_members u.first then group_told no_room l (line_of u.first) u else line_told no_room l (line_of u.first))

abbrev pub refusals : Answer → ℕ
refusals (answers.Refused r) = 1
refusals answer = 0

-- what units come to: the lists, the refusals, and the text
pub record Report : Type 0 where
  pub lists : Lists
  pub refused : ℕ
  pub text : List ℕ

abbrev pub nothing : Report
nothing = record { lists = record { standing = []; undone = [] }; refused = 0; text = [] }

-- the unit of a number was told so
abbrev pub with_told : Report → ℕ → Told → Report
with_told r number told = record {
  lists = told.0;
  refused = r.refused + refusals told.1;
  text = r.text ++ answer_text number (state_of told.0.standing) told.1;
}

-- one unit more; `no_room` lists the numbers of the units that lack memory
abbrev pub with_unit : List ℕ → Report → ScriptUnit → Report
with_unit no_room r u = with_told r u.number (unit_told (list_any (λ n. n == u.number) no_room) r.lists u)

abbrev pub report : List ℕ → List ScriptUnit → Report
report no_room us = fold_list (with_unit no_room) nothing us

abbrev pub script_report : List ℕ → List ℕ → Report
script_report no_room script = report no_room (all_units (lines script))

abbrev pub transcript : List ℕ → List ℕ → List ℕ
transcript no_room script = (script_report no_room script).text

-- the transcript of the units that the lines end which a newline ends
abbrev pub whole_transcript : List ℕ → List ℕ → List ℕ
whole_transcript no_room script = (report no_room (units (whole_lines script))).text
