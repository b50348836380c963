-- The standing commands of a report are accepted.
use Rattle.std.proofs.Common.{◌≡◌, ℕ, Bool, true, false, cond, ◌==◌, List, [], ◌∷◌, ◌++◌, length, Option, None, Some, IsSome, refl, sym, ap, subst}
use Rattle.std.specs.Prelude.{unwrap_or, not, ◌&&◌, ◌||◌, fold as fold_list}
use Rattle.std.specs.List.{list_any}
use Rattle.sgb_undo.specs.Outcome.{Accepted, Refused, on_accepted}
use Rattle.sgb_undo.specs.Replay.{fold}
use Rattle.sgb_script.specs.declared.command.Command.{Command}
use Rattle.sgb_script.specs.declared.command.Command.TheVariants as commands
use Rattle.sgb_session.specs.declared.reply.Delta.{Delta}
use Rattle.sgb_session.specs.declared.reply.Reply.{Reply}
use Rattle.sgb_session.specs.Command.{CommandOutcome, step, may_want}
use Rattle.sgb_script.specs.declared.command.Single.{Single}
use Rattle.sgb_script.specs.declared.command.Single.TheVariants.{Make}
use Rattle.sgb_script.specs.declared.command.Maker.TheVariants as makers
use Rattle.sgb_script.specs.declared.command.Line.{Line}
use Rattle.sgb_script.specs.declared.command.Line.TheVariants.{Nothing, Change, Undo, Redo, Query, Load, Group, End}
use Rattle.sgb_script.specs.declared.refusal.ShellRefusal.TheVariants.{NoRoom, ScriptSyntax, JournalFull}
use Rattle.sgb_script.specs.Line.{line_of}
use Rattle.sgb_shell.specs.declared.answer.Answer.TheVariants as answers
use Rattle.sgb_shell.specs.Lines.{all_but_last}
use Rattle.sgb_session.specs.State.{State, empty}
use Rattle.sgb_shell.specs.Transcript.{Lists, Told, Report, report, nothing, with_unit, answered, with_command, grows, changing, state_of, last_command, undoing, redoing, line_told, load_told, group_told, grouping, unit_told, has_its_text}
use Rattle.sgb_shell.specs.Group.{commands_in}
use Rattle.sgb_shell.specs.Unit.{ScriptUnit, takes_text, takes_members, is_whole, text_in}

abbrev Stand : List Command → Type 0
Stand cs = IsSome (fold step empty cs)

-- ---- lists of commands

abbrev fold_from : Option State → List Command → Option State
fold_from None cs = None
fold_from (Some s) cs = fold step s cs

fold-append : (s : State) (cs ds : List Command) → fold step s (cs ++ ds) ≡ fold_from (fold step s cs) ds
fold-append s [] ds = refl
fold-append s (c ∷ cs) ds =
    elim (step s c) as (λ o. on_accepted o (λ n _. fold step n (cs ++ ds)) None ≡ fold_from (on_accepted o (λ n _. fold step n cs) None) ds) [
      | Accepted n d r ↦ fold-append n cs ds
      | Refused r ↦ refl
    ]

some_front : (o : Option State) (ds : List Command) → IsSome (fold_from o ds) → IsSome o
some_front None ds h = h
some_front (Some s) ds h = refl

Stand-front : (cs ds : List Command) → Stand (cs ++ ds) → Stand cs
Stand-front cs ds h = some_front (fold step empty cs) ds (subst (λ o. IsSome o) (fold-append empty cs ds) h)

some_push : (o : Option State) (c : Command) (s : State) (d : Delta) (r : Reply) → IsSome o → step (unwrap_or o empty) c ≡ Accepted s d r → IsSome (fold_from o (c ∷ []))
some_push None c s d r h e = h
some_push (Some n) c s d r h e = rw e refl

Stand-push : (cs : List Command) (c : Command) (s : State) (d : Delta) (r : Reply) → Stand cs → step (state_of cs) c ≡ Accepted s d r → Stand (cs ++ c ∷ [])
Stand-push cs c s d r h e = subst (λ o. IsSome o) (sym (fold-append empty cs (c ∷ []))) (some_push (fold step empty cs) c s d r h e)

front_of : {X : Type 0} (xs : List X) → (ys : List X) × (xs ≡ all_but_last xs ++ ys)
front_of [] = ([], refl)
front_of (x ∷ []) = (x ∷ [], refl)
front_of (x ∷ y ∷ ys) = let rest = front_of (y ∷ ys) in (rest.0, ap (λ l. x ∷ l) rest.1)

-- ---- a unit

either_stands : (b : Bool) (t u : Told) → Stand t.0.standing → Stand u.0.standing → Stand (cond b t u).0.standing
either_stands true t u p q = p
either_stands false t u p q = q

answered_stands : (l accepted : Lists) (o : CommandOutcome) → Stand l.standing → ((s : State) (d : Delta) (r : Reply) → o ≡ Accepted s d r → Stand accepted.standing) → Stand (answered l accepted o).0.standing
answered_stands l accepted (Accepted s d r) h more = more s d r refl
answered_stands l accepted (Refused r) h more = h

undoing_stands : (l : Lists) (o : Option Command) → Stand l.standing → Stand (undoing l o).0.standing
undoing_stands l None h = h
undoing_stands l (Some c) h = let rest = front_of l.standing in Stand-front (all_but_last l.standing) rest.0 (subst Stand rest.1 h)

redoing_stands : (b : Bool) (standing undone : List Command) → Stand standing → Stand (redoing b standing undone).0.standing
redoing_stands b standing [] h = h
redoing_stands b standing (c ∷ cs) h =
    let l : Lists = record { standing = standing; undone = c ∷ cs } in
    either_stands (b && may_want (state_of standing) c) (l, answers.Refused NoRoom) (answered l (record { standing = standing ++ c ∷ []; undone = cs }) (step (state_of standing) c)) h
    (answered_stands l (record { standing = standing ++ c ∷ []; undone = cs }) (step (state_of standing) c) h (λ s d r. Stand-push standing c s d r h))

changing_stands : (b : Bool) (l : Lists) (c : Command) → Stand l.standing → Stand (changing b l c).0.standing
changing_stands b l c h =
    let done : Told = answered l (with_command l c) (step (state_of l.standing) c) in
    let stands : Stand done.0.standing = answered_stands l (with_command l c) (step (state_of l.standing) c) h (λ s d r. Stand-push l.standing c s d r h) in
    let room : Told = cond (b && (grows l || may_want (state_of l.standing) c)) (l, answers.Refused NoRoom) done in
    let some : Stand room.0.standing = either_stands (b && (grows l || may_want (state_of l.standing) c)) (l, answers.Refused NoRoom) done h stands in
    let full : Told = cond (length l.standing == 65535) (l, answers.Refused JournalFull) room in
    either_stands (b && has_its_text c) (l, answers.Refused NoRoom) full h (either_stands (length l.standing == 65535) (l, answers.Refused JournalFull) room h some)

line_stands : (b : Bool) (l : Lists) (o : Option Line) → Stand l.standing → Stand (line_told b l o).0.standing
line_stands b l None h = h
line_stands b l (Some Nothing) h = h
line_stands b l (Some (Change c)) h = changing_stands b l (commands.One c) h
line_stands b l (Some Undo) h = undoing_stands l (last_command l.standing) h
line_stands b l (Some Redo) h = redoing_stands b l.standing l.undone h
line_stands b l (Some (Query q)) h = h
line_stands b l (Some (Load name rule)) h = h
line_stands b l (Some Group) h = h
line_stands b l (Some End) h = h

load_stands : (b : Bool) (l : Lists) (o : Option Line) (u : ScriptUnit) → Stand l.standing → Stand (load_told b l o u).0.standing
load_stands b l None u h = h
load_stands b l (Some Nothing) u h = h
load_stands b l (Some (Change c)) u h = h
load_stands b l (Some Undo) u h = h
load_stands b l (Some Redo) u h = h
load_stands b l (Some (Query q)) u h = h
load_stands b l (Some Group) u h = h
load_stands b l (Some End) u h = h
load_stands b l (Some (Load name rule)) u h =
    let made : Told = changing b l (commands.One (Make name (makers.Load (text_in u) rule))) in
    let stands : Stand made.0.standing = changing_stands b l (commands.One (Make name (makers.Load (text_in u) rule))) h in
    let ends : Told = cond (is_whole u) made (l, answers.Refused ScriptSyntax) in
    either_stands (b && not (length u.inner == 0)) (l, answers.Refused NoRoom) ends h (either_stands (is_whole u) made (l, answers.Refused ScriptSyntax) stands h)

grouping_stands : (b : Bool) (l : Lists) (o : Option (List Single)) → Stand l.standing → Stand (grouping b l o).0.standing
grouping_stands b l None h = h
grouping_stands b l (Some cs) h = changing_stands b l (commands.Group cs) h

group_stands : (b : Bool) (l : Lists) (o : Option Line) (u : ScriptUnit) → Stand l.standing → Stand (group_told b l o u).0.standing
group_stands b l None u h = h
group_stands b l (Some Nothing) u h = h
group_stands b l (Some (Change c)) u h = h
group_stands b l (Some Undo) u h = h
group_stands b l (Some Redo) u h = h
group_stands b l (Some (Query q)) u h = h
group_stands b l (Some (Load name rule)) u h = h
group_stands b l (Some End) u h = h
group_stands b l (Some Group) u h =
    either_stands (b && not (length u.inner == 0)) (l, answers.Refused NoRoom) (grouping b l (commands_in u)) h (grouping_stands b l (commands_in u) h)

unit_stands : (b : Bool) (l : Lists) (u : ScriptUnit) → Stand l.standing → Stand (unit_told b l u).0.standing
unit_stands b l u h =
    let o = line_of u.first in
    let other : Told = cond (takes_members u.first) (group_told b l o u) (line_told b l o) in
    either_stands (takes_text u.first) (load_told b l o u) other (load_stands b l o u h)
    (either_stands (takes_members u.first) (group_told b l o u) (line_told b l o) (group_stands b l o u h) (line_stands b l o h))

-- ---- units

from_stands : (no_room : List ℕ) (r : Report) (us : List ScriptUnit) → Stand r.lists.standing → Stand (fold_list (with_unit no_room) r us).lists.standing
from_stands no_room r [] h = h
from_stands no_room r (u ∷ us) h =
    from_stands no_room (with_unit no_room r u) us (unit_stands (list_any (λ n. n == u.number) no_room) r.lists u h)

pub report_stands : (no_room : List ℕ) (us : List ScriptUnit) → IsSome (fold step empty (report no_room us).lists.standing)
report_stands no_room us = from_stands no_room nothing us refl
