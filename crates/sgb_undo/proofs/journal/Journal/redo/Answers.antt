use Rattle.std.proofs.Common.{◌≡◌, ◌<◌, refl, sym, ap, ◌∙◌, arith, length, get_or, vec_len, vec_capacity, inl, inr}
use Rattle.sgb_undo.specs.Private.Kept.{places}
use Rattle.sgb_undo.proofs.JournalLists.{Answers, IsJournal-seen, IsJournal-same, length-deltas, undone-some, undone-accepted, FirstMayWant-waits, IsSound-redo, Redoes-sound}
use Rattle.sgb_undo.proofs.journal.Journal.redo.Given.{Over}
use Rattle.sgb_undo.proofs.journal.Journal.redo.Goals as goal
use Rattle.sgb_undo.proofs.journal.Journal.redo.Goals.{After-push_reserved, In-Err}

-- what the machine answered
abbrev answer : (g : Over) (c : After-push_reserved g) → Answers g.M.Reversible.step g.M.Reversible.before g.M.Reversible.can_revert c.self.inside.machine c.index.result.now c.in-Ok.delta c.apply.new.self
answer g c = record {
  reply = c.in-Ok.reply;
  accepted = c.in-Ok.ensures.accepted;
  back = c.in-Ok.ensures.before;
  revertible = c.in-Ok.ensures.can_revert;
}

-- something is undone, and what the machine was asked waits there
below : (g : Over) (c : After-push_reserved g) → vec_len c.self.inside.deltas < length c.self.inside.commands.items
below g c =
    let held = length-deltas c.self.invariant in
    omega (arith, c.self.inside.commands.ok.0, c.self.inside.deltas.ok.0)

waits : (g : Over) (c : After-push_reserved g) → get_or c.self.inside.commands.items (vec_len c.self.inside.deltas) c.index.result.now ≡ c.index.result.now
waits g c =
    ap (λ k. get_or c.self.inside.commands.items k c.index.result.now) (sym c.len-next.ensures)
    ∙ sym c.index.ensures

below_refused : (g : Over) (c : In-Err g) → vec_len c.self.inside.deltas < length c.self.inside.commands.items
below_refused g c =
    let held = length-deltas c.self.invariant in
    omega (arith, c.self.inside.commands.ok.0, c.self.inside.deltas.ok.0)

waits_refused : (g : Over) (c : In-Err g) → get_or c.self.inside.commands.items (vec_len c.self.inside.deltas) c.index.result.now ≡ c.index.result.now
waits_refused g c =
    ap (λ k. get_or c.self.inside.commands.items k c.index.result.now) (sym c.len-next.ensures)
    ∙ sym c.index.ensures

pub returns-then-next-len-clause-sound : goal.returns-then-next-len-clause-sound
returns-then-next-len-clause-sound g c = IsJournal-seen c.self.invariant c.self.inside.deltas.ok.0 c.self.view_is

pub index-requires : goal.index-requires
index-requires g c =
    let held = length-deltas c.self.invariant in
    omega (arith, c.self.inside.commands.ok.0, c.self.inside.deltas.ok.0)

pub push_reserved-requires : goal.push_reserved-requires
push_reserved-requires g c =
    let held = length-deltas c.self.invariant in
    omega (arith, c.self.inside.commands.ok.0, c.self.inside.deltas.ok.0, c.self.invariant.placed)

pub invariant_of-self : goal.invariant_of-self
invariant_of-self g c =
    IsSound-redo c.self.invariant (answer g c) c.self.inside.deltas.ok.0 (below g c) (waits g c) c.push_reserved.ensures.items (ap (places (vec_capacity c.self.inside.commands)) c.push_reserved.ensures.capacity)

pub returns-in-Ok-clause-ok : goal.returns-in-Ok-clause-ok
returns-in-Ok-clause-ok g c =
    Redoes-sound c.self.invariant (answer g c) c.self.inside.deltas.ok.0 (below g c) (waits g c) c.push_reserved.ensures.items c.push_reserved.new.self.ok.0 c.self.view_is

pub returns-in-Ok-clause-nothing : goal.returns-in-Ok-clause-nothing
returns-in-Ok-clause-nothing g c =
    (λ e. cc, λ e. absurd (undone-some c.self.invariant c.self.inside.deltas.ok.0 (below g c) c.self.view_is e))

pub returns-in-Ok-clause-sound : goal.returns-in-Ok-clause-sound
returns-in-Ok-clause-sound g c = IsJournal-seen (invariant_of-self g c) c.push_reserved.new.self.ok.0 refl

pub returns-in-Err-clause-nothing : goal.returns-in-Err-clause-nothing
returns-in-Err-clause-nothing g c =
    (λ e. cc, λ e. absurd (undone-some c.self.invariant c.self.inside.deltas.ok.0 (below_refused g c) c.self.view_is e))

pub returns-in-Err-clause-refused : goal.returns-in-Err-clause-refused
returns-in-Err-clause-refused g c = λ r e.
    let same : c.in-Err.want ≡ r = cc in
    elim c.in-Err.ensures.refused [
      | inl want ↦ (
        ap g.M.Reversible.is_want_of_memory (sym same) ∙ want.0,
        FirstMayWant-waits g.M.Reversible.may_want c.self.invariant (below_refused g c) (waits_refused g c) c.self.view_is want.1,
      )
      | inr refused ↦ absurd (undone-accepted c.self.invariant c.self.inside.deltas.ok.0 (below_refused g c) (waits_refused g c) refused)
    ]

pub returns-in-Err-clause-sound : goal.returns-in-Err-clause-sound
returns-in-Err-clause-sound g c =
    IsJournal-same c.self.invariant c.in-Err.ensures.err refl refl c.self.inside.deltas.ok.0

pub returns-in-Ok-clause-start : goal.returns-in-Ok-clause-start
returns-in-Ok-clause-start g c = let ok = returns-in-Ok-clause-ok g c in ok.start
