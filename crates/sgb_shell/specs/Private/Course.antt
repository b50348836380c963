-- How a script comes on line by line.
use Rattle.std.specs.Prelude.{ℕ, ◌+◌, ◌==◌, if◌then◌else◌, List, [], ◌++◌, Option, None, Some, fold as fold_list}
use Rattle.std.specs.List.{list_any}
use Rattle.sgb_shell.specs.Answer.{answer_text}
use Rattle.sgb_shell.specs.Group.{closes}
use Rattle.sgb_shell.specs.Transcript.{Lists, Told, state_of, refusals, unit_told}
use Rattle.sgb_shell.specs.Unit.{ScriptUnit, alone, opened, with_line, closed_by, takes_lines}

-- how far a script has come: its lines, the unit that goes on, the lists, the refusals, and the text so far
pub record Course : Type 0 where
  pub lines : ℕ
  pub pending : Option ScriptUnit
  pub lists : Lists
  pub refused : ℕ
  pub text : List ℕ

abbrev pub start : Course
start = record { lines = 0; pending = None; lists = record { standing = []; undone = [] }; refused = 0; text = [] }

abbrev pub goes_on : Course → ℕ → Told → Course
goes_on c number told = record {
  lines = c.lines;
  pending = None;
  lists = told.0;
  refused = c.refused + refusals told.1;
  text = c.text ++ answer_text number (state_of told.0.standing) told.1;
}

-- a unit is answered; `no_room` lists the numbers of the units that want for memory
abbrev pub answered_unit : List ℕ → Course → ScriptUnit → Course
answered_unit no_room c u = goes_on c u.number (unit_told (list_any (λ n. n == u.number) no_room) c.lists u)

-- the line of the course's last number, behind a unit that goes on, or behind none
abbrev pub taken : List ℕ → Course → Option ScriptUnit → List ℕ → Course
taken no_room c None line =
    if takes_lines line then record c { pending = Some (opened c.lines line) } else answered_unit no_room c (alone c.lines line)
taken no_room c (Some u) line =
    if closes u line then answered_unit no_room c (closed_by u line) else record c { pending = Some (with_line u line) }

-- one line more
abbrev pub advance : List ℕ → Course → List ℕ → Course
advance no_room c line = taken no_room (record c { lines = c.lines + 1 }) c.pending line

unfoldable pub course : List ℕ → List (List ℕ) → Course
course no_room ls = fold_list (advance no_room) start ls

-- at the end of the script a unit that goes on is answered too
abbrev pub ended : List ℕ → Course → Option ScriptUnit → Course
ended no_room c None = c
ended no_room c (Some u) = answered_unit no_room c u

unfoldable pub whole_course : List ℕ → List (List ℕ) → Course
whole_course no_room ls = ended no_room (course no_room ls) (course no_room ls).pending
