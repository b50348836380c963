-- How far a run has come, line by line.
use Rattle.std.specs.Prelude.{◌≡◌, ℕ, ◌+◌, ◌≤◌, ◌==◌, true, false, if◌then◌else◌, List, [], ◌∷◌, ◌++◌, length, take, Option, None, Some, Result, Ok, Err}
use Rattle.std.specs.List.{list_any}
use Rattle.std.specs.Io.KnownBytes.{Appends}
use Rattle.sgb_shell.specs.declared.answer.Answer.{Answer}
use Rattle.sgb_shell.specs.declared.pending.Pending.{Pending}
use Rattle.sgb_print.specs.Meter.{WriterUse}
use Rattle.sgb_shell.specs.Lines.{whole_lines, unfinished}
use Rattle.sgb_shell.specs.Private.Gathering.{IsGathered}
use Rattle.sgb_shell.specs.Private.Holding.{HeldLine, held_line}
use Rattle.sgb_shell.specs.Private.Performing.{Kept, IsBegun, Does, lists_of, by_unit}
use Rattle.sgb_shell.specs.Run.{AppendsPast}
use Rattle.sgb_shell.specs.Private.Course.{Course, course, whole_course}
use Rattle.sgb_shell.specs.Group.{closes}
use Rattle.sgb_shell.specs.Unit.{ScriptUnit, alone, opened, with_line, closed_by, takes_lines}

-- ---- one line

-- what a line comes to: a unit that goes on, or one that is answered
pub data Taken : Type 0 where
  GoesOn : ScriptUnit → Taken
  Ends : ScriptUnit → Taken

-- the line of a number, behind a unit that goes on, or behind none
abbrev pub unit_by : ℕ → Option ScriptUnit → List ℕ → Taken
unit_by number None line = if takes_lines line then GoesOn (opened number line) else Ends (alone number line)
unit_by number (Some u) line = if closes u line then Ends (closed_by u line) else GoesOn (with_line u line)

-- what is gathered of the unit that goes on
abbrev pub Waits : Option ScriptUnit → Option Pending → Type 0
Waits None None = Unit {0}
Waits None (Some p) = ⊥
Waits (Some u) None = ⊥
Waits (Some u) (Some p) = IsGathered u p

-- what a line comes to is done: nothing yet, or the unit of a number is answered
abbrev pub Settles : Taken → Kept → Kept → Option Pending → Option (ℕ × Answer) → Type 0
Settles (GoesOn u) old new pending None = (new ≡ old) × Waits (Some u) pending
Settles (GoesOn u) old new pending (Some told) = ⊥
Settles (Ends u) old new pending None = ⊥
Settles (Ends u) old new pending (Some told) = (told.0 ≡ u.number) × (pending ≡ None) × Does (by_unit u) old new told.1

-- ---- all lines so far

-- the number of the next unit that is answered, where the next line has this number
abbrev pub number_at : ℕ → Option ScriptUnit → ℕ
number_at number None = number
number_at number (Some u) = u.number

abbrev pub unanswered : Course → ℕ
unanswered c = number_at (c.lines + 1) c.pending

-- the journal, what is gathered of the unit that goes on, and the counts of lines and of refused units
pub record ShellView : Type 0 where
  pub journal : Kept
  pub pending : Option Pending
  pub lines : ℕ
  pub refused : ℕ

-- these lines are taken: so many of them are counted and refused, the journal has their commands, and their text is
-- written; units yet to be answered lack no memory so far
pub record Reached (held now : Option (List ℕ)) (ls : List (List ℕ)) (shell : ShellView) : Type 0 where
  pub no_room : List ℕ
  pub above : (n : ℕ) → unanswered (course no_room ls) ≤ n → list_any (λ k. k == n) no_room ≡ false
  pub lines : shell.lines ≡ length ls
  pub waits : Waits (course no_room ls).pending shell.pending
  pub lists : (course no_room ls).lists ≡ lists_of shell.journal
  pub refused : (course no_room ls).refused ≡ shell.refused
  pub text : Appends held now (course no_room ls).text
  pub begun : IsBegun shell.journal

-- the writer failed somewhere in the text of all the lines, behind that of the first of them
pub record Stopped (held now : Option (List ℕ)) (first all : List (List ℕ)) : Type 0 where
  pub no_room : List ℕ
  pub text : AppendsPast held now (course no_room first).text (course no_room all).text

-- behind the first lines all are taken, or the writer failed
abbrev pub Finishes : {W X E : Type 0} → Option (List ℕ) → WriterUse W → WriterUse W → List (List ℕ) → List (List ℕ) → ShellView → Result X E → Type 0
Finishes held old new first all shell (Ok x) = Reached held new.held all shell × (new.failed ≡ old.failed)
Finishes held old new first all shell (Err e) = Stopped held new.held first all × (new.failed ≡ true)

-- ---- the bytes of a script

pub record ReaderView : Type 0 where
  pub shell : ShellView
  pub line : HeldLine

-- the whole lines of the script are taken, and what is unfinished is held
pub record Progress (held now : Option (List ℕ)) (script : List ℕ) (reader : ReaderView) : Type 0 where
  pub reached : Reached held now (whole_lines script) reader.shell
  pub holds : reader.line ≡ held_line (unfinished script)

-- bytes are taken behind others of the script, or the writer failed in the text of the lines that they end
abbrev pub Takes : {W X E : Type 0} → Option (List ℕ) → WriterUse W → WriterUse W → List ℕ → List ℕ → ReaderView → Result X E → Type 0
Takes held old new before script reader (Ok x) = Progress held new.held script reader × (new.failed ≡ old.failed)
Takes held old new before script reader (Err e) = Stopped held new.held (whole_lines before) (whole_lines script) × (new.failed ≡ true)

-- so many of the bytes are taken, or the writer failed in the text of the lines that the bytes end
abbrev pub TakesFront : {W E : Type 0} → Option (List ℕ) → WriterUse W → WriterUse W → List ℕ → List ℕ → ReaderView → Result ℕ E → Type 0
TakesFront held old new script bytes reader (Ok n) = Progress held new.held (script ++ take n bytes) reader × (new.failed ≡ old.failed)
TakesFront held old new script bytes reader (Err e) = Stopped held new.held (whole_lines script) (whole_lines (script ++ bytes)) × (new.failed ≡ true)

-- the line that is unfinished has this end
abbrev pub ended_lines : List ℕ → List ℕ → List (List ℕ)
ended_lines script end = whole_lines script ++ (unfinished script ++ end) ∷ []

-- the next line begins, and the lines before it are taken, or the writer failed
pub record TakesLine {W X E : Type 0} (held : Option (List ℕ)) (old new : WriterUse W) (script end : List ℕ) (reader : ReaderView) (result : Result X E) : Type 0 where
  pub line : reader.line ≡ held_line []
  pub finishes : Finishes held old new (whole_lines script) (ended_lines script end) reader.shell result

-- ---- the end of the script

-- all is answered, a unit that goes on too
pub record Ended (held now : Option (List ℕ)) (ls : List (List ℕ)) (shell : ShellView) : Type 0 where
  pub no_room : List ℕ
  pub lines : shell.lines ≡ length ls
  pub refused : (whole_course no_room ls).refused ≡ shell.refused
  pub text : Appends held now (whole_course no_room ls).text

-- the writer failed somewhere in the text of all, behind that of the first lines
pub record StoppedAtEnd (held now : Option (List ℕ)) (first all : List (List ℕ)) : Type 0 where
  pub no_room : List ℕ
  pub text : AppendsPast held now (course no_room first).text (whole_course no_room all).text

abbrev pub Concludes : {W X E : Type 0} → Option (List ℕ) → WriterUse W → WriterUse W → List (List ℕ) → List (List ℕ) → ShellView → Result X E → Type 0
Concludes held old new first all shell (Ok x) = Ended held new.held all shell × (new.failed ≡ old.failed)
Concludes held old new first all shell (Err e) = StoppedAtEnd held new.held first all × (new.failed ≡ true)
