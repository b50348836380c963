use Rattle.sgb_print.proofs.TextPieces.{fails_early, prints_behind}
use Rattle.sgb_programs.specs.Queen.{queen_text}
use Rattle.sgb_programs.proofs.moves.print_queen.Goals as goal

pub returns-in_err-print_heading : goal.returns-in_err-print_heading
unfolding queen_text
returns-in_err-print_heading g c = fails_early _ c.in_err-print_heading.ensures c.from_residual.ensures.0

pub returns : goal.returns
unfolding queen_text
returns g c = prints_behind c.in_ok-print_heading.ensures c.print_squares.ensures
