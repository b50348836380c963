use Rattle.sgb_print.proofs.TextPieces.{fails_early, prints_behind}
use Rattle.sgb_programs.proofs.moves.print_square.Goals as goal

pub returns-in_err-put_all : goal.returns-in_err-put_all
returns-in_err-put_all g c = fails_early _ (rw c.label.ensures.value at c.in_err-put_all.ensures) c.from_residual.ensures.0

pub returns : goal.returns
returns g c = prints_behind (rw c.label.ensures.value at c.in_ok-put_all.ensures) c.print_moves.ensures
