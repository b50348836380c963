use Rattle.sgb_print.proofs.TextPieces.{fails_early, prints_behind}
use Rattle.sgb_info.specs.Info.{extremes_text}
use Rattle.sgb_info.proofs.lines.put_extremes.Goals as goal

pub returns-in_err-put_count : goal.returns-in_err-put_count
unfolding extremes_text
returns-in_err-put_count g c = fails_early _ c.in_err-put_count.ensures c.from_residual.ensures.0

pub returns-in_err-put_count-2 : goal.returns-in_err-put_count-2
unfolding extremes_text
returns-in_err-put_count-2 g c = prints_behind c.in_ok-put_count.ensures (fails_early _ c.in_err-put_count-2.ensures c.from_residual-in_err-put_count-2.ensures.0)

pub returns-in_err-put_count-3 : goal.returns-in_err-put_count-3
unfolding extremes_text
returns-in_err-put_count-3 g c = prints_behind c.in_ok-put_count.ensures (prints_behind c.in_ok-put_count-2.ensures (fails_early _ c.in_err-put_count-3.ensures c.from_residual-in_err-put_count-3.ensures.0))

pub returns-in_err-put_count-4 : goal.returns-in_err-put_count-4
unfolding extremes_text
returns-in_err-put_count-4 g c = prints_behind c.in_ok-put_count.ensures (prints_behind c.in_ok-put_count-2.ensures (prints_behind c.in_ok-put_count-3.ensures (fails_early _ c.in_err-put_count-4.ensures c.from_residual-in_err-put_count-4.ensures.0)))

pub returns-in_err-put_length : goal.returns-in_err-put_length
unfolding extremes_text
returns-in_err-put_length g c = prints_behind c.in_ok-put_count.ensures (prints_behind c.in_ok-put_count-2.ensures (prints_behind c.in_ok-put_count-3.ensures (prints_behind c.in_ok-put_count-4.ensures (fails_early _ c.in_err-put_length.ensures c.from_residual-in_err-put_length.ensures.0))))

pub returns : goal.returns
unfolding extremes_text
returns g c = prints_behind c.in_ok-put_count.ensures (prints_behind c.in_ok-put_count-2.ensures (prints_behind c.in_ok-put_count-3.ensures (prints_behind c.in_ok-put_count-4.ensures (prints_behind c.in_ok-put_length.ensures c.put_length-2.ensures))))
