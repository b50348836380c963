use Rattle.std.proofs.Common.{◌∙◌}
use Rattle.sgb_undo.proofs.GroupSteps.{revertible-last, revertible-front, start_of-last}
use Rattle.sgb_undo.proofs.group.revert_all.Goals as goal

pub revert-requires : goal.revert-requires
revert-requires g c =
    revertible-last g.M.Reversible.before g.M.Reversible.can_revert _ _ _ _ c.loop-delta.invariant.revertible c.in-Some.ensures.items

pub loop-delta-preserved : goal.loop-delta-preserved
loop-delta-preserved g c = record {
  revertible = revertible-front g.M.Reversible.before g.M.Reversible.can_revert _ _ _ _ _ c.loop-delta.invariant.revertible c.in-Some.ensures.items c.revert.ensures;
  back = start_of-last g.M.Reversible.before _ _ _ _ _ c.in-Some.ensures.items c.revert.ensures ∙ c.loop-delta.invariant.back;
}
