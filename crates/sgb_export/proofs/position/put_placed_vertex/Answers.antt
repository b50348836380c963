use Rattle.sgb_print.proofs.TextPieces.{fails_early, prints_behind}
use Rattle.sgb_export.proofs.position.put_placed_vertex.Goals as goal

pub returns-in_err-put_label : goal.returns-in_err-put_label
returns-in_err-put_label g c = fails_early _ c.in_err-put_label.ensures c.from_residual.ensures.0

pub returns : goal.returns
returns g c = prints_behind c.in_ok-put_label.ensures (rw (c.x_of.ensures, c.y_of.ensures) at c.put_position.ensures)
