use Rattle.std.proofs.Common.{rules, ◌≡◌, ◌<◌, true, sym, arith, length}
use Rattle.sgb_undo.proofs.GroupSteps.{IsPerformed-more, refused-more}
use Rattle.sgb_undo.proofs.group.perform_each.Goals as goal

pub returns-in_err-delta-clause-refused : goal.returns-in_err-delta-clause-refused
returns-in_err-delta-clause-refused g c =
    let below : c.loop-command.command-index < length c.args.commands.now = omega (arith, c.loop-command-test.true) in
    let whole = refused-more c.args.commands.now c.loop-command.command-index (g.M.Reversible.is_want_of_memory c.in_err-delta.field-0.0 ≡ true) g.M.Reversible.may_want c.loop-command.invariant.performed below (sym c.command-item.is) c.in_err-delta.ensures.refused in
    search rules

pub loop-command-preserved : goal.loop-command-preserved
loop-command-preserved g c =
    let i = c.loop-command.invariant in
    let e = c.in_ok-delta.ensures in
    let below : c.loop-command.command-index < length c.args.commands.now = omega (arith, c.loop-command-test.true) in
    record {
      performed = IsPerformed-more c.args.commands.now c.loop-command.command-index i.performed below (sym c.command-item.is) e.accepted e.can_revert e.before c.push_reserved.ensures.items c.push_reserved-in-loop-command.ensures.items;
      deltas = (omega (arith, i.deltas.0, c.push_reserved.ensures.len), omega (arith, i.deltas.1, c.push_reserved.ensures.capacity));
      replies = (omega (arith, i.replies.0, c.push_reserved-in-loop-command.ensures.len), omega (arith, i.replies.1, c.push_reserved-in-loop-command.ensures.capacity));
    }
