use Rattle.sgb_print.proofs.TextPieces.{fails_early, prints_behind}
use Rattle.sgb_export.proofs.graphml.put_around.Goals as goal

pub returns-in_err-put_all : goal.returns-in_err-put_all
returns-in_err-put_all g c = fails_early _ c.in_err-put_all.ensures c.from_residual.ensures.0

pub returns-in_err-put_escaped : goal.returns-in_err-put_escaped
returns-in_err-put_escaped g c = prints_behind c.in_ok-put_all.ensures (fails_early _ c.in_err-put_escaped.ensures c.from_residual-in_err-put_escaped.ensures.0)

pub returns : goal.returns
returns g c = prints_behind c.in_ok-put_all.ensures (prints_behind c.in_ok-put_escaped.ensures c.put.ensures)
