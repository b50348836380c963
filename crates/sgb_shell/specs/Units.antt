-- The units of a script: its lines cut into them.
use Rattle.std.specs.Prelude.{ℕ, ◌+◌, if◌then◌else◌, List, [], ◌∷◌, ◌++◌, Option, None, Some}
use Rattle.sgb_shell.specs.Group.{closes}
use Rattle.sgb_shell.specs.Unit.{ScriptUnit, alone, opened, with_line, closed_by, takes_lines}

-- the units that have their end, and the pending one, whose end has not come
pub record Cut : Type 0 where
  pub units : List ScriptUnit
  pub pending : Option ScriptUnit

abbrev pub behind : ScriptUnit → Cut → Cut
behind u c = record c { units = u ∷ c.units }

-- the lines from that of a number on, behind a pending unit or behind none
unfoldable pub cut : ℕ → Option ScriptUnit → List (List ℕ) → Cut
cut number pending [] = record { units = []; pending = pending }
cut number None (line ∷ lines) =
    if takes_lines line then cut (number + 1) (Some (opened number line)) lines
    else behind (alone number line) (cut (number + 1) None lines)
cut number (Some u) (line ∷ lines) =
    if closes u line then behind (closed_by u line) (cut (number + 1) None lines)
    else cut (number + 1) (Some (with_line u line)) lines

-- the units that the lines end
abbrev pub units : List (List ℕ) → List ScriptUnit
units lines = (cut 1 None lines).units

abbrev pub one_or_none : Option ScriptUnit → List ScriptUnit
one_or_none None = []
one_or_none (Some u) = u ∷ []

-- at the end of the script a pending unit is one too
abbrev pub all_units : List (List ℕ) → List ScriptUnit
all_units lines = units lines ++ one_or_none (cut 1 None lines).pending
