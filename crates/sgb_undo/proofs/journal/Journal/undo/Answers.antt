use Rattle.std.proofs.Common.{ap, refl, vec_capacity}
use Rattle.sgb_undo.specs.Private.Kept.{places}
use Rattle.sgb_undo.proofs.JournalLists.{IsJournal-seen, can_revert-last, IsSound-undo, Undoes-sound}
use Rattle.sgb_undo.proofs.journal.Journal.undo.Goals as goal
use Rattle.sgb_undo.proofs.journal.Journal.undo.Goals.{After-revert}

pub revert-requires : goal.revert-requires
revert-requires g c = can_revert-last _ c.self.invariant c.in-Some.ensures.items

pub invariant_of-self : goal.invariant_of-self
invariant_of-self g c = IsSound-undo c.self.invariant c.in-Some.ensures.items c.revert.ensures (ap (places (vec_capacity c.self.inside.commands)) c.in-Some.ensures.capacity)

pub returns-in-Some-clause-ok : goal.returns-in-Some-clause-ok
returns-in-Some-clause-ok g c = Undoes-sound _ c.self.invariant c.in-Some.ensures.items c.revert.ensures c.self.inside.deltas.ok.0 c.pop.new.self.ok.0 c.self.view_is

pub returns-in-Some-clause-sound : goal.returns-in-Some-clause-sound
returns-in-Some-clause-sound g c = IsJournal-seen (invariant_of-self g c) c.pop.new.self.ok.0 refl

pub returns-in-Some-clause-start : goal.returns-in-Some-clause-start
returns-in-Some-clause-start g c = let ok = returns-in-Some-clause-ok g c in ok.start
