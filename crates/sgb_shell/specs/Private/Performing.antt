-- What a line or a unit does to the session's journal.
use Rattle.std.specs.Prelude.{◌≡◌, Bool, if◌then◌else◌, Option, Result, Ok, Err}
use Rattle.sgb_graph.specs.Graph.{GraphOf}
use Rattle.sgb_undo.specs.History.{History, IsJournal}
use Rattle.sgb_undo.specs.declared.refusal.JournalRefusal.{JournalRefusal}
use Rattle.sgb_undo.specs.declared.refusal.JournalRefusal.TheVariants as journals
use Rattle.sgb_shell.specs.declared.answer.Answer.{Answer}
use Rattle.sgb_shell.specs.declared.answer.Answer.TheVariants.{Replied, Refused, Saved}
use Rattle.sgb_script.specs.declared.command.Command.{Command}
use Rattle.sgb_session.specs.declared.reply.Delta.{Delta}
use Rattle.sgb_session.specs.declared.reply.Reply.{Reply}
use Rattle.sgb_session.specs.Command.{step, before}
use Rattle.sgb_script.specs.declared.command.Line.{Line}
use Rattle.sgb_script.specs.declared.command.Query.{Query}
use Rattle.sgb_script.specs.declared.refusal.ShellRefusal.{ShellRefusal}
use Rattle.sgb_script.specs.declared.refusal.ShellRefusal.TheVariants.{NoRoom, NothingToRedo, JournalFull}
use Rattle.sgb_session.specs.State.{State, empty}
use Rattle.sgb_shell.specs.Transcript.{Lists, Told, asked_of, changing, saved_of, line_told, unit_told}
use Rattle.sgb_shell.specs.Unit.{ScriptUnit}

-- the session's journal, as its contracts see it
abbrev pub Kept : Type 0
Kept = History State Command Delta

abbrev pub lists_of : Kept → Lists
lists_of j = record { standing = j.standing; undone = j.undone }

-- the session is what the standing commands give from the empty one
pub record IsBegun (j : Kept) : Type 0 where
  pub start : j.start ≡ empty
  pub sound : IsJournal step before j

abbrev pub refusal_from : JournalRefusal ShellRefusal → ShellRefusal
refusal_from journals.NoRoom = NoRoom
refusal_from journals.Full = JournalFull
refusal_from journals.NothingToRedo = NothingToRedo
refusal_from (journals.Machine r) = r

abbrev pub answer_from : Result Reply (JournalRefusal ShellRefusal) → Answer
answer_from (Ok reply) = Replied reply
answer_from (Err e) = Refused (refusal_from e)

-- what is told the lists, where memory is wanted and where it is not
abbrev pub Telling : Type 0
Telling = Bool → Lists → Told

abbrev pub by_command : Command → Telling
by_command c no_room l = changing no_room l c

abbrev pub by_line : Option Line → Telling
by_line line no_room l = line_told no_room l line

abbrev pub by_unit : ScriptUnit → Telling
by_unit u no_room l = unit_told no_room l u

-- it was done, and wanted for memory or did not
pub record Does (tells : Telling) (old new : Kept) (answer : Answer) : Type 0 where
  pub no_room : Bool
  pub told : tells no_room (lists_of old) ≡ (lists_of new, answer)
  pub begun : IsBegun new

-- a graph was saved, or memory was wanted for it
abbrev pub Saves : GraphOf → Answer → Type 0
Saves g answer = (no_room : Bool) × (answer ≡ (if no_room then Refused NoRoom else Saved (saved_of g)))

-- a question was answered, and wanted for memory or did not
abbrev pub Answers : State → Query → Answer → Type 0
Answers s query answer = (no_room : Bool) × (answer ≡ asked_of no_room s query)
