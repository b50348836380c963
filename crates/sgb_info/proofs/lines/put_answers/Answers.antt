use Rattle.sgb_print.proofs.TextPieces.{fails_early, prints_behind}
use Rattle.sgb_info.specs.Info.{answers_text}
use Rattle.sgb_info.proofs.lines.put_answers.Goals as goal

pub returns-in_err-put_count : goal.returns-in_err-put_count
unfolding answers_text
returns-in_err-put_count g c = fails_early _ c.in_err-put_count.ensures c.from_residual.ensures.0

pub returns-in_err-put_answer : goal.returns-in_err-put_answer
unfolding answers_text
returns-in_err-put_answer g c = prints_behind c.in_ok-put_count.ensures (fails_early _ c.in_err-put_answer.ensures c.from_residual-in_err-put_answer.ensures.0)

pub returns-in_err-put_answer-2 : goal.returns-in_err-put_answer-2
unfolding answers_text
returns-in_err-put_answer-2 g c = prints_behind c.in_ok-put_count.ensures (prints_behind c.in_ok-put_answer.ensures (fails_early _ c.in_err-put_answer-2.ensures c.from_residual-in_err-put_answer-2.ensures.0))

pub returns : goal.returns
unfolding answers_text
returns g c = prints_behind c.in_ok-put_count.ensures (prints_behind c.in_ok-put_answer.ensures (prints_behind c.in_ok-put_answer-2.ensures c.put_number.ensures))
