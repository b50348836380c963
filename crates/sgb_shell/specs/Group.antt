-- The groups of a script: their members, and the line that ends them.
use Rattle.std.specs.Prelude.{ℕ, nat_le, Bool, ◌&&◌, if◌then◌else◌, List, [], ◌∷◌, ◌++◌, length, Option, None, Some, is_none, fold as fold_list}
use Rattle.sgb_script.specs.declared.command.Single.{Single}
use Rattle.sgb_script.specs.declared.command.Single.TheVariants.{Make}
use Rattle.sgb_script.specs.declared.command.Line.{Line}
use Rattle.sgb_script.specs.declared.command.Line.TheVariants.{Nothing, Change, Load}
use Rattle.sgb_script.specs.declared.command.Maker.TheVariants as makers
use Rattle.sgb_script.specs.Line.{line_of}
use Rattle.sgb_shell.specs.Unit.{ScriptUnit, opened, with_line, as_closed, takes_text, is_dot, is_end, is_whole, text_in}

-- what the lines of a group come to: the commands of its members so far, none where one is no member, and the member
-- whose text goes on
pub record Members : Type 0 where
  pub commands : Option (List Single)
  pub text : Option ScriptUnit

abbrev pub no_members : Members
no_members = record { commands = Some []; text = None }

-- the commands of some members, and those of others behind them
abbrev pub joined : Option (List Single) → Option (List Single) → Option (List Single)
joined (Some cs) (Some ds) = Some (cs ++ ds)
joined (Some cs) None = None
joined None ds = None

-- a member that is one line: a command, or a line of nothing, which is none
abbrev pub line_member : Option Line → Option (List Single)
line_member (Some Nothing) = Some []
line_member (Some (Change c)) = Some (c ∷ [])
line_member line = None

-- a member with its text
abbrev pub text_member : Option Line → ScriptUnit → Option (List Single)
text_member (Some (Load name rule)) u = if is_whole u then Some (Make name (makers.Load (text_in u) rule) ∷ []) else None
text_member line u = None

abbrev pub with_member : Members → Option (List Single) → Members
with_member m cs = record { commands = joined m.commands cs; text = None }

-- one line more, behind a member whose text goes on, or behind none
abbrev pub with_member_line : Members → Option ScriptUnit → List ℕ → Members
with_member_line m None line =
    if takes_text line then record m { text = Some (opened 0 line) } else with_member m (line_member (line_of line))
with_member_line m (Some u) line =
    if is_dot line then with_member m (text_member (line_of u.first) (as_closed u)) else record m { text = Some (with_line u line) }

unfoldable pub members_of : List (List ℕ) → Members
members_of ls = fold_list (λ m line. with_member_line m m.text line) no_members ls

-- the line ends the unit that goes on; `end` in the text of a member ends nothing
abbrev pub closes : ScriptUnit → List ℕ → Bool
closes u line = if takes_text u.first then is_dot line else is_none (members_of u.inner).text && is_end line

-- no more than 1,024 commands
abbrev pub few : Option (List Single) → Option (List Single)
few None = None
few (Some cs) = if nat_le (length cs) 1024 then Some cs else None

-- the commands of a group that has its end
abbrev pub commands_in : ScriptUnit → Option (List Single)
commands_in u = if u.closed then few (members_of u.inner).commands else None
