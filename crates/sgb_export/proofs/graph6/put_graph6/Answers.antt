use Rattle.sgb_print.proofs.TextPieces.{fails_early, prints_behind}
use Rattle.sgb_export.specs.Graph6.{graph6_line, graph6_text}
use Rattle.sgb_export.proofs.graph6.put_graph6.Goals as goal

pub returns-in_err-put_size : goal.returns-in_err-put_size
unfolding graph6_line graph6_text
returns-in_err-put_size g c = fails_early _ (rw c.n.ensures.value at c.in_err-put_size.ensures) c.from_residual.ensures.0

pub returns-in_err-put_columns : goal.returns-in_err-put_columns
unfolding graph6_line graph6_text
returns-in_err-put_columns g c =
    prints_behind (rw c.n.ensures.value at c.in_ok-put_size.ensures) (fails_early _ c.in_err-put_columns.ensures c.from_residual-in_err-put_columns.ensures.0)

pub returns : goal.returns
unfolding graph6_line graph6_text
returns g c = prints_behind (rw c.n.ensures.value at c.in_ok-put_size.ensures) (prints_behind c.in_ok-put_columns.ensures c.put.ensures)
