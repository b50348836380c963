use Rattle.sgb_graph.specs.Edit.{util_at}
use Rattle.sgb_print.proofs.TextPieces.{fails_early, prints_behind}
use Rattle.sgb_print.proofs.show.print_vertex_line.Goals as goal

pub returns-in_err-print_vertex_head : goal.returns-in_err-print_vertex_head
returns-in_err-print_vertex_head g c = fails_early _ (rw c.label.ensures.value at c.in_err-print_vertex_head.ensures) c.from_residual.ensures.0

pub returns : goal.returns
unfolding util_at
returns g c = prints_behind (rw c.label.ensures.value at c.in_ok-print_vertex_head.ensures)
    (rw (c.util.ensures, c.util-2.ensures, c.util-3.ensures, c.util-4.ensures, c.util-5.ensures, c.util-6.ensures) at c.end_with_fields.ensures)
