use Rattle.sgb_print.proofs.TextPieces.{fails_early, prints_behind}
use Rattle.sgb_print.proofs.show.print_vertex.Goals as goal

pub returns-in_err-print_vertex_line : goal.returns-in_err-print_vertex_line
returns-in_err-print_vertex_line g c = fails_early _ c.in_err-print_vertex_line.ensures c.from_residual.ensures.0

pub returns : goal.returns
returns g c = prints_behind c.in_ok-print_vertex_line.ensures c.print_arcs.ensures
