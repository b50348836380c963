use Rattle.std.proofs.Common.{ap, sym}
use Rattle.sgb_shell.specs.Answer.{count_text}
use Rattle.sgb_print.proofs.TextPieces.{fails_early, prints_behind, prints_same}
use Rattle.sgb_shell.proofs.answer.print_list.Goals as goal

pub returns-in_err-print_counted : goal.returns-in_err-print_counted
returns-in_err-print_counted g c =
    fails_early _ (prints_same c.in_err-print_counted.ensures (ap count_text (sym c.len.ensures.value))) c.from_residual.ensures.0

pub returns : goal.returns
returns g c = prints_behind (prints_same c.in_ok-print_counted.ensures (ap count_text (sym c.len.ensures.value))) c.print_entries.ensures
