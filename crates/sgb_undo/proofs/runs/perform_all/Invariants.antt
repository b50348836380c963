use Rattle.std.proofs.Common.{◌≡◌, ◌+◌, ◌≤◌, ◌++◌, length, vec_len, vec_capacity}
use Rattle.std.specs.Vec.Iter.{into_iter_items, into_iter_len}
use Rattle.sgb_undo.specs.History.{IsJournal}
use Rattle.sgb_undo.specs.Events.{lists_of, after_all, accepted_of, AreAnsweredRightly}
use Rattle.sgb_undo.proofs.runs.perform_all.Given as goal

abbrev pub invariant-loop-event : goal.invariant-loop-event
invariant-loop-event g l = record {
  can : (goal.iterator-loop-event g).can_next l.event-iterator;
  finite : (goal.iterator-loop-event g).is_finite l.event-iterator;
  rest : l.yielded ++ into_iter_items l.event-iterator ≡ l.fn.events.items;
  long : length l.accepted.items ≡ length l.yielded;
  room : vec_len l.accepted + into_iter_len l.event-iterator ≤ vec_capacity l.accepted;
  lists : lists_of l.journal ≡ after_all (accepted_of l.yielded l.accepted.items) (lists_of l.fn.journal);
  right : AreAnsweredRightly g.M.Reversible.step g.M.Reversible.may_want l.fn.journal.start l.yielded l.accepted.items (lists_of l.fn.journal);
  start : l.journal.start ≡ l.fn.journal.start;
  sound : IsJournal g.M.Reversible.step g.M.Reversible.before l.journal;
}
