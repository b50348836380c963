use Rattle.std.proofs.Common.{arith, ◌≤◌, ◌^◌, length, subst, sym}
use Rattle.std.proofs.lemmas.Result.{err_from_is_err_and}
use Rattle.sgb_shell.specs.Lines.{whole_lines, lines}
use Rattle.sgb_shell.specs.Private.Reaching.{ReaderView, Reached}
use Rattle.sgb_shell.proofs.Bytes.{ended_unit}
use Rattle.sgb_shell.proofs.LineEnds.{length-lines}
use Rattle.sgb_shell.proofs.Progress.{stopped_before}
use Rattle.sgb_shell.proofs.reader.LineReader.end.Goals as goal

pub returns-in_err-end_line : goal.returns-in_err-end_line
returns-in_err-end_line g c held script few p =
    let r = err_from_is_err_and c.from_residual.result c.from_residual.ensures.1 in
    let failed = c.in_err-end_line.ensures held script few p in
    rw r.1 (stopped_before held _ (whole_lines script) (lines script) failed.0, failed.1)

pub returns : goal.returns
returns g c held script few p =
    let more = c.in_ok-end_line.ensures held script few p in
    let few_lines : length (lines script) ≤ 2 ^ 32 = omega (arith, length-lines script) in
    let reached = subst (λ (r : ReaderView). Reached held c.end_line.new.writer.held (lines script) r.shell) (sym c.self.view_is) more.0 in
    ended_unit held c.args.writer.now c.end_line.new.writer c.end.new.writer script c.end.new.self c.end.result more.1 (c.end.ensures held (lines script) few_lines reached)
