use Rattle.sgb_print.specs.Show.{graph_text}
use Rattle.sgb_print.proofs.TextPieces.{fails_early, prints_behind}
use Rattle.sgb_print.proofs.show.print_graph.Goals as goal

pub returns-in_err-print_header : goal.returns-in_err-print_header
unfolding graph_text
returns-in_err-print_header g c = fails_early _ c.in_err-print_header.ensures c.from_residual.ensures.0

pub returns-in_err-print_graph_fields : goal.returns-in_err-print_graph_fields
unfolding graph_text
returns-in_err-print_graph_fields g c =
    prints_behind c.in_ok-print_header.ensures (fails_early _ c.in_err-print_graph_fields.ensures c.from_residual-in_err-print_graph_fields.ensures.0)

pub returns : goal.returns
unfolding graph_text
returns g c = prints_behind c.in_ok-print_header.ensures (prints_behind c.in_ok-print_graph_fields.ensures c.print_vertices.ensures)
