-- What is gathered of a unit that goes on.
use Rattle.std.specs.Prelude.{◌≡◌, ℕ, ◌==◌, ◌≤◌, nat_le, not, Bool, true, false, List, [], ◌∷◌, ◌++◌, length, Option, None, Some, ◌⊎◌, Result, Ok, Err, Vec}
use Rattle.std.specs.declared.alloc.Global.{Global}
use Rattle.std.specs.List.{list_all}
use Rattle.sgb_script.specs.declared.command.Command.{Command}
use Rattle.sgb_script.specs.declared.command.Command.TheVariants.{One}
use Rattle.sgb_script.specs.declared.command.Single.{Single}
use Rattle.sgb_script.specs.declared.command.Line.{Line}
use Rattle.sgb_script.specs.declared.command.Line.TheVariants.{Nothing, Change, Undo, Redo, Query, Load, Group, End}
use Rattle.sgb_script.specs.declared.refusal.ShellRefusal.{ShellRefusal}
use Rattle.sgb_script.specs.declared.refusal.ShellRefusal.TheVariants.{NoRoom, ScriptSyntax}
use Rattle.sgb_script.specs.Line.{line_of}
use Rattle.sgb_shell.specs.declared.answer.Answer.TheVariants.{Refused}
use Rattle.sgb_shell.specs.declared.group.OpenGroup.{OpenGroup}
use Rattle.sgb_shell.specs.declared.pending.Pending.{Pending}
use Rattle.sgb_shell.specs.declared.pending.OpenUnit.{OpenUnit}
use Rattle.sgb_shell.specs.declared.pending.OpenUnit.TheVariants as units
use Rattle.sgb_shell.specs.declared.text.OpenText.{OpenText}
use Rattle.sgb_shell.specs.declared.text.OpenText.TheVariants as texts
use Rattle.sgb_shell.specs.Group.{members_of, few, joined, text_member}
use Rattle.sgb_shell.specs.Private.Holding.{is_above}
use Rattle.sgb_shell.specs.Transcript.{Lists, unit_told, changing}
use Rattle.sgb_shell.specs.Unit.{ScriptUnit, takes_text, takes_members, as_closed, closed_by, text_in}

-- the unit is refused so, whatever stands
pub record IsRefused (u : ScriptUnit) (r : ShellRefusal) : Type 0 where
  pub no_room : Bool
  pub told : (l : Lists) → unit_told no_room l u ≡ (l, Refused r)

-- ---- a text

-- no line of a text has more than 8,192 bytes
abbrev pub are_short : List (List ℕ) → Bool
are_short ls = list_all (λ line. nat_le (length line) 8192) ls

abbrev pub is_load : Option Line → Bool
is_load None = false
is_load (Some Nothing) = false
is_load (Some (Change c)) = false
is_load (Some Undo) = false
is_load (Some Redo) = false
is_load (Some (Query q)) = false
is_load (Some (Load name rule)) = true
is_load (Some Group) = false
is_load (Some End) = false

-- all of the text so far; or the unit is refused for a line that is wrong, or since memory was wanted for its text
abbrev pub GathersText : ScriptUnit → OpenText → Type 0
GathersText u (texts.Text name rule text) =
    (line_of u.first ≡ Some (Load name rule)) × (are_short u.inner ≡ true) × (text.items ≡ text_in u)
GathersText u (texts.Refused r) =
    ((r ≡ ScriptSyntax) × ((is_load (line_of u.first) ≡ false) ⊎ (are_short u.inner ≡ false)))
    ⊎ ((r ≡ NoRoom) × (is_load (line_of u.first) ≡ true) × ((length u.inner == 0) ≡ false))

pub record IsText (u : ScriptUnit) (t : OpenText) : Type 0 where
  pub unclosed : u.closed ≡ false
  pub takes : takes_text u.first ≡ true
  pub lines : GathersText u t

-- what a line asks for: a text, of which there is nothing yet
abbrev pub Begins : Option Line → OpenText → Type 0
Begins line (texts.Text name rule text) = (line ≡ Some (Load name rule)) × (text.items ≡ [])
Begins line (texts.Refused r) = (r ≡ ScriptSyntax) × (is_load line ≡ false)

-- a text has one line more, unless the line is too long or memory was wanted
abbrev pub Puts : {X : Type 0} → List ℕ → List ℕ → List ℕ → Result X ShellRefusal → Type 0
Puts old new line (Ok x) = (is_above line ≡ false) × (new ≡ old ++ (line ++ 10 ∷ []))
Puts old new line (Err r) = ((r ≡ ScriptSyntax) × (is_above line ≡ true)) ⊎ (r ≡ NoRoom)

-- what comes of the text where it ends: a command by itself, or a member of a group
abbrev pub ClosesText : ScriptUnit → Result Single ShellRefusal → Type 0
ClosesText u (Ok c) =
    ((no_room : Bool) (l : Lists) → unit_told no_room l (as_closed u) ≡ changing no_room l (One c))
    × (text_member (line_of u.first) (as_closed u) ≡ Some (c ∷ []))
ClosesText u (Err r) =
    IsRefused (as_closed u) r × (((r ≡ ScriptSyntax) × (text_member (line_of u.first) (as_closed u) ≡ None)) ⊎ (r ≡ NoRoom))

-- ---- the members of a group

abbrev pub is_group : Option Line → Bool
is_group None = false
is_group (Some Nothing) = false
is_group (Some (Change c)) = false
is_group (Some Undo) = false
is_group (Some Redo) = false
is_group (Some (Query q)) = false
is_group (Some (Load name rule)) = false
is_group (Some Group) = true
is_group (Some End) = false

-- a member was read, unless it is none or memory was wanted for it
abbrev pub IsMember : Option (List Single) → Result (Option Single) ShellRefusal → Type 0
IsMember member (Ok None) = member ≡ Some []
IsMember member (Ok (Some c)) = member ≡ Some (c ∷ [])
IsMember member (Err r) = ((r ≡ ScriptSyntax) × (member ≡ None)) ⊎ (r ≡ NoRoom)

-- the commands of the members so far; or the group is refused for a line that is wrong, for too many members, or since
-- memory was wanted for one
abbrev pub Collects : Option Line → Option (List Single) → Bool → Result (Vec Single Global) ShellRefusal → Type 0
Collects first commands has_lines (Ok list) =
    (first ≡ Some Group) × (commands ≡ Some list.items) × (length list.items ≤ 1024)
Collects first commands has_lines (Err r) =
    ((r ≡ ScriptSyntax) × ((is_group first ≡ false) ⊎ (few commands ≡ None)))
    ⊎ ((r ≡ NoRoom) × (is_group first ≡ true) × (has_lines ≡ true))

-- the commands of a group with one member more, unless it is none, there are too many, or memory was wanted
abbrev pub Adds : {X : Type 0} → List Single → List Single → Option (List Single) → Result X ShellRefusal → Type 0
Adds old new more (Ok x) = (joined (Some old) more ≡ Some new) × (length new ≤ 1024)
Adds old new more (Err r) = ((r ≡ ScriptSyntax) × (few (joined (Some old) more) ≡ None)) ⊎ (r ≡ NoRoom)

abbrev pub HasText : Option ScriptUnit → Option OpenText → Type 0
HasText None None = Unit {0}
HasText None (Some t) = ⊥
HasText (Some u) None = ⊥
HasText (Some u) (Some t) = IsText u t

pub record IsGroup (u : ScriptUnit) (g : OpenGroup) : Type 0 where
  pub unclosed : u.closed ≡ false
  pub other : takes_text u.first ≡ false
  pub takes : takes_members u.first ≡ true
  pub commands : Collects (line_of u.first) (members_of u.inner).commands (not (length u.inner == 0)) g.commands
  pub text : HasText (members_of u.inner).text g.text

abbrev pub with_text : OpenGroup → OpenText → OpenGroup
with_text g t = record { commands = g.commands; text = Some t }

-- ---- a unit

abbrev pub GathersUnit : ScriptUnit → OpenUnit → Type 0
GathersUnit u (units.Text text) = IsText u text
GathersUnit u (units.Group group) = IsGroup u group

pub record IsGathered (u : ScriptUnit) (p : Pending) : Type 0 where
  pub number : p.number ≡ u.number
  pub lines : GathersUnit u p.unit

-- What comes of the unit where a line ends it. A group that found room for its members may be told as one that did not, and one
-- that did not as one that did.
abbrev pub Closes : ScriptUnit → List ℕ → Result Command ShellRefusal → Type 0
Closes u line (Ok c) = (no_room : Bool) (l : Lists) → (wants : Bool) × (unit_told wants l (closed_by u line) ≡ changing no_room l c)
Closes u line (Err r) = IsRefused (closed_by u line) r
