use Rattle.sgb_shell.specs.Answer.{single_text}
use Rattle.sgb_print.proofs.TextPieces.{prints_all, writes_piece, fails_piece, item_and_rest, no_rest}
use Rattle.sgb_shell.proofs.answer.print_replies.Goals as goal

pub returns-in_err-print_single : goal.returns-in_err-print_single
returns-in_err-print_single g c =
    fails_piece _ c.loop-reply.invariant c.in_err-print_single.ensures
    (item_and_rest single_text _ c.loop-reply.reply-index _ _ c.loop-reply-test.true c.reply-item.is) c.from_residual.ensures.0

pub loop-reply-preserved : goal.loop-reply-preserved
loop-reply-preserved g c =
    writes_piece c.loop-reply.invariant c.in_ok-print_single.ensures
    (item_and_rest single_text _ c.loop-reply.reply-index _ _ c.loop-reply-test.true c.reply-item.is)

pub returns : goal.returns
returns g c = prints_all c.loop-reply.invariant (no_rest single_text c.args.members.now c.loop-reply.reply-index c.loop-reply-test.false)
