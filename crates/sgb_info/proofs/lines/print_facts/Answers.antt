use Rattle.sgb_print.proofs.TextPieces.{fails_early, prints_behind}
use Rattle.sgb_info.specs.Info.{facts_text}
use Rattle.sgb_info.proofs.lines.print_facts.Goals as goal

pub returns-in_err-put_counts : goal.returns-in_err-put_counts
unfolding facts_text
returns-in_err-put_counts g c = fails_early _ c.in_err-put_counts.ensures c.from_residual.ensures.0

pub returns-in_err-put_extremes : goal.returns-in_err-put_extremes
unfolding facts_text
returns-in_err-put_extremes g c = prints_behind c.in_ok-put_counts.ensures (fails_early _ c.in_err-put_extremes.ensures c.from_residual-in_err-put_extremes.ensures.0)

pub returns : goal.returns
unfolding facts_text
returns g c = prints_behind c.in_ok-put_counts.ensures (prints_behind c.in_ok-put_extremes.ensures c.put_answers.ensures)
