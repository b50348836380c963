use Rattle.std.proofs.Common.{◌≡◌, ◌<◌, [], ◌∷◌, ◌++◌, refl, sym, ap, ◌∙◌, arith, rules, length, take, vec_len, vec_capacity}
use Rattle.sgb_undo.specs.Private.Kept.{places}
use Rattle.sgb_undo.proofs.JournalLists.{Answers, commands-apply, IsJournal-seen, IsJournal-same, length-deltas, length-standing, IsSound-apply, Applies-sound, places-same}
use Rattle.sgb_undo.proofs.journal.Journal.apply.Given.{Over}
use Rattle.sgb_undo.proofs.journal.Journal.apply.Goals as goal
use Rattle.sgb_undo.proofs.journal.Journal.apply.Goals.{After-push_reserved-in-Ok}

-- what the machine answered
abbrev answer : (g : Over) (c : After-push_reserved-in-Ok g) → Answers g.M.Reversible.step g.M.Reversible.before g.M.Reversible.can_revert c.self.inside.machine c.args.command c.in-Ok.delta c.apply.new.self
answer g c = record {
  reply = c.in-Ok.reply;
  accepted = c.in-Ok.ensures.accepted;
  back = c.in-Ok.ensures.before;
  revertible = c.in-Ok.ensures.can_revert;
}

-- the commands and the deltas in the end
commands : (g : Over) (c : After-push_reserved-in-Ok g) → c.push_reserved.new.self.items ≡ take (vec_len c.self.inside.deltas) c.self.inside.commands.items ++ c.args.command ∷ []
commands g c =
    commands-apply c.self.inside.commands.items _ _ (vec_len c.self.inside.deltas) _ c.args.command _ c.make_place.ensures.commands c.len-standing.ensures c.truncate.ensures.items c.push_reserved.ensures.items

deltas : (g : Over) (c : After-push_reserved-in-Ok g) → c.push_reserved-in-Ok.new.self.items ≡ c.self.inside.deltas.items ++ c.in-Ok.delta ∷ []
deltas g c =
    c.push_reserved-in-Ok.ensures.items ∙ ap (λ ds. ds ++ c.in-Ok.delta ∷ []) c.make_place.ensures.deltas

pub returns-then-standing-eq-MOST_COMMANDS-clause-full : goal.returns-then-standing-eq-MOST_COMMANDS-clause-full
returns-then-standing-eq-MOST_COMMANDS-clause-full g c = (
  λ e. length-standing c.self.invariant c.self.inside.deltas.ok.0 c.self.view_is ∙ sym c.len-standing.ensures ∙ c.if-standing-eq-MOST_COMMANDS.true,
  λ e. refl,
)

pub returns-then-standing-eq-MOST_COMMANDS-clause-sound : goal.returns-then-standing-eq-MOST_COMMANDS-clause-sound
returns-then-standing-eq-MOST_COMMANDS-clause-sound g c = IsJournal-seen c.self.invariant c.self.inside.deltas.ok.0 c.self.view_is

pub make_place-requires-clause-within : goal.make_place-requires-clause-within
make_place-requires-clause-within g c =
    let held = length-deltas c.self.invariant in
    omega (arith, c.self.inside.commands.ok.0, c.self.inside.deltas.ok.0)

pub returns-then-is_err-clause-sound : goal.returns-then-is_err-clause-sound
returns-then-is_err-clause-sound g c =
    IsJournal-same c.self.invariant refl c.make_place.ensures.commands c.make_place.ensures.deltas c.make_place.new.deltas.ok.0

pub invariant_of-self-in-Ok : goal.invariant_of-self-in-Ok
invariant_of-self-in-Ok g c =
    let held = length-deltas c.self.invariant in
    let room : vec_len c.self.inside.deltas < 65535 = omega (arith, c.self.inside.deltas.ok.0, c.self.invariant.limited) in
    let placed : vec_len c.make_place.new.deltas < places (vec_capacity c.make_place.new.commands) (vec_capacity c.make_place.new.deltas) = search rules in
    let same = ap length c.make_place.ensures.deltas in
    let count : vec_len c.self.inside.deltas ≡ vec_len c.make_place.new.deltas = omega (arith, c.make_place.new.deltas.ok.0, c.self.inside.deltas.ok.0) in
    let place = places-same count (c.push_reserved.ensures.capacity ∙ c.truncate.ensures.capacity) c.push_reserved-in-Ok.ensures.capacity placed in
    IsSound-apply c.self.invariant (answer g c) c.self.inside.deltas.ok.0 room place (commands g c) (deltas g c)

pub returns-in-Ok-clause-ok : goal.returns-in-Ok-clause-ok
returns-in-Ok-clause-ok g c =
    Applies-sound c.self.invariant (answer g c) c.self.inside.deltas.ok.0 (commands g c) (deltas g c) c.push_reserved-in-Ok.new.self.ok.0 c.self.view_is

pub returns-in-Ok-clause-full : goal.returns-in-Ok-clause-full
returns-in-Ok-clause-full g c = (
  λ e. cc,
  λ e. absurd (c.if-standing-eq-MOST_COMMANDS.false (c.len-standing.ensures ∙ sym (length-standing c.self.invariant c.self.inside.deltas.ok.0 c.self.view_is) ∙ e)),
)

pub returns-in-Ok-clause-sound : goal.returns-in-Ok-clause-sound
returns-in-Ok-clause-sound g c = IsJournal-seen (invariant_of-self-in-Ok g c) c.push_reserved-in-Ok.new.self.ok.0 refl

pub returns-in-Err-clause-full : goal.returns-in-Err-clause-full
returns-in-Err-clause-full g c = (
  λ e. cc,
  λ e. absurd (c.if-standing-eq-MOST_COMMANDS.false (c.len-standing.ensures ∙ sym (length-standing c.self.invariant c.self.inside.deltas.ok.0 c.self.view_is) ∙ e)),
)

pub returns-in-Err-clause-sound : goal.returns-in-Err-clause-sound
returns-in-Err-clause-sound g c =
    IsJournal-same c.self.invariant c.in-Err.ensures.err c.make_place.ensures.commands c.make_place.ensures.deltas c.make_place.new.deltas.ok.0

pub returns-in-Ok-clause-start : goal.returns-in-Ok-clause-start
returns-in-Ok-clause-start g c = let ok = returns-in-Ok-clause-ok g c in ok.start
