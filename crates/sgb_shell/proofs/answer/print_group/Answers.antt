use Rattle.sgb_print.proofs.TextPieces.{fails_early, prints_behind}
use Rattle.sgb_shell.proofs.answer.print_group.Goals as goal

pub returns-in_err-print_replies : goal.returns-in_err-print_replies
returns-in_err-print_replies g c = fails_early _ c.in_err-print_replies.ensures c.from_residual.ensures.0

pub returns : goal.returns
returns g c = prints_behind c.in_ok-print_replies.ensures c.print_counted.ensures
