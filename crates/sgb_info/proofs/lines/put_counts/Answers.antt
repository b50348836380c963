use Rattle.sgb_print.proofs.TextPieces.{fails_early, prints_behind}
use Rattle.sgb_info.specs.Info.{counts_text}
use Rattle.sgb_info.proofs.lines.put_counts.Goals as goal

pub returns-in_err-put_id : goal.returns-in_err-put_id
unfolding counts_text
returns-in_err-put_id g c = fails_early _ c.in_err-put_id.ensures c.from_residual.ensures.0

pub returns-in_err-put_count : goal.returns-in_err-put_count
unfolding counts_text
returns-in_err-put_count g c = prints_behind c.in_ok-put_id.ensures (fails_early _ c.in_err-put_count.ensures c.from_residual-in_err-put_count.ensures.0)

pub returns-in_err-put_count-2 : goal.returns-in_err-put_count-2
unfolding counts_text
returns-in_err-put_count-2 g c = prints_behind c.in_ok-put_id.ensures (prints_behind c.in_ok-put_count.ensures (fails_early _ c.in_err-put_count-2.ensures c.from_residual-in_err-put_count-2.ensures.0))

pub returns-in_err-put_number : goal.returns-in_err-put_number
unfolding counts_text
returns-in_err-put_number g c = prints_behind c.in_ok-put_id.ensures (prints_behind c.in_ok-put_count.ensures (prints_behind c.in_ok-put_count-2.ensures (fails_early _ c.in_err-put_number.ensures c.from_residual-in_err-put_number.ensures.0)))

pub returns-in_err-put_number-2 : goal.returns-in_err-put_number-2
unfolding counts_text
returns-in_err-put_number-2 g c = prints_behind c.in_ok-put_id.ensures (prints_behind c.in_ok-put_count.ensures (prints_behind c.in_ok-put_count-2.ensures (prints_behind c.in_ok-put_number.ensures (fails_early _ c.in_err-put_number-2.ensures c.from_residual-in_err-put_number-2.ensures.0))))

pub returns : goal.returns
unfolding counts_text
returns g c = prints_behind c.in_ok-put_id.ensures (prints_behind c.in_ok-put_count.ensures (prints_behind c.in_ok-put_count-2.ensures (prints_behind c.in_ok-put_number.ensures (prints_behind c.in_ok-put_number-2.ensures c.put_number-3.ensures))))
