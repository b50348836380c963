use Rattle.std.proofs.Common.{◌≤◌, length, take, vec_len, vec_capacity}
use Rattle.sgb_undo.specs.Private.Performed.{IsPerformed}
use Rattle.sgb_undo.proofs.group.perform_each.Given as goal

abbrev pub invariant-loop-command : goal.invariant-loop-command
invariant-loop-command g l = record {
  performed : IsPerformed g.M.Reversible.step g.M.Reversible.before g.M.Reversible.can_revert l.fn.machine (take l.command-index l.commands) l.machine l.deltas.items l.replies.items;
  deltas : (vec_len l.deltas ≤ l.command-index) × (length l.commands ≤ vec_capacity l.deltas);
  replies : (vec_len l.replies ≤ l.command-index) × (length l.commands ≤ vec_capacity l.replies);
}
