use Rattle.std.proofs.Common.{arith, ap, sym, subst, ◌∙◌, Ok}
use Rattle.std.proofs.lemmas.Result.{err_from_is_err_and}
use Rattle.sgb_shell.specs.declared.fault.RunEnd.{RunEnd}
use Rattle.sgb_shell.specs.Private.Reaching.{ShellView}
use Rattle.sgb_shell.specs.Run.{Runs}
use Rattle.sgb_shell.proofs.RunEnds.{script_failed, script_ended, last_line_failed}
use Rattle.sgb_shell.proofs.script.run_metered.Goals as goal

pub take_script-requires-clause-begun : goal.take_script-requires-clause-begun
take_script-requires-clause-begun g c = c.in-Ok.ensures _

pub returns-in_err-take_script : goal.returns-in_err-take_script
returns-in_err-take_script g c = let p = err_from_is_err_and c.from_residual.result c.from_residual.ensures.1 in
    record { runs = rw (p.1, p.2) (script_failed _ _ _ _ _ _ c.in_err-take_script.ensures) }

abbrev run_end : ShellView → RunEnd
run_end s = record { lines = s.lines; refused = s.refused }

pub returns-in-Ok-end : goal.returns-in-Ok-end
returns-in-Ok-end g c =
    let t = c.in_ok-take_script.ensures in
    let ended = script_ended _ _ _ _ _ c.end.new.writer _ t c.end.new.self.shell (c.in-Ok-end.ensures _ t.script (omega (arith, t.few)) t.ends.4) in
    record {
      runs = subst (λ (e : RunEnd). Runs c.args.reader.now.left c.take_script.new.reader c.args.writer.now.held c.end.new.writer (Ok e))
          (sym (c.end_of_run.ensures ∙ ap run_end c.shell.ensures)) ended;
    }

pub returns : goal.returns
returns g c =
    let t = c.in_ok-take_script.ensures in
    record { runs = last_line_failed _ _ _ _ _ c.end.new.writer _ t (c.in-Err.ensures _ t.script (omega (arith, t.few)) t.ends.4) }
