use Rattle.std.proofs.Common.{◌≡◌}
use Rattle.sgb_undo.specs.Replay.{start_of}
use Rattle.sgb_undo.specs.Group.{CanRevertAll}
use Rattle.sgb_undo.proofs.group.revert_all.Given as goal

abbrev pub invariant-loop-delta : goal.invariant-loop-delta
invariant-loop-delta g l = record {
  revertible : CanRevertAll g.M.Reversible.before g.M.Reversible.can_revert l.machine l.deltas.items;
  back : start_of g.M.Reversible.before l.machine l.deltas.items ≡ start_of g.M.Reversible.before l.fn.machine l.fn.deltas;
}

abbrev pub decreases-loop-delta : goal.decreases-loop-delta
decreases-loop-delta g l = goal.left-loop-delta g l
