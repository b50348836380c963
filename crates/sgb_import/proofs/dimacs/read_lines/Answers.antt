use Rattle.std.proofs.Common.{sym, ◌∙◌, refl}
use Rattle.std.proofs.lemmas.List.{length_push}
use Rattle.std.proofs.lemmas.Result.{err_from_is_err_and}
use Rattle.sgb_import.proofs.DimacsReading.{step_on, stop_at, all_read, nothing_read}
use Rattle.sgb_import.specs.Private.Cursors.{seen}
use Rattle.sgb_import.proofs.dimacs.read_lines.Goals as goal

pub loop-line-init : goal.loop-line-init
loop-line-init c = record {
  can = tt;
  finite = tt;
  behind = nothing_read c.args.text.now _ _ (sym c.new-line-items.ensures ∙ sym c.into_iter-line-iterator.ensures.into_iter_gives) refl c.new.ensures.items refl;
}

pub loop-line-preserved : goal.loop-line-preserved
loop-line-preserved c = record {
  can = tt;
  finite = tt;
  behind = rw (length_push c.loop-line.yielded c.in-Some.line) (step_on c.args.text.now _ _ _ (seen c.in-Some.line) c.loop-line.reader c.take.new.self _ c.loop-line.invariant.behind c.in-Some.ensures.steps c.in_ok-take.ensures.line c.in_ok-take.ensures.few c.in_ok-take.ensures.last);
}

pub returns-in_err-take-clause-err : goal.returns-in_err-take-clause-err
returns-in_err-take-clause-err c =
    let p = err_from_is_err_and c.from_residual.result c.from_residual.ensures.1 in
    rw (p.1, p.2) (stop_at c.args.text.now _ _ _ (seen c.in-Some.line) c.loop-line.reader c.take.new.self _ c.loop-line.invariant.behind c.in-Some.ensures.steps c.in_err-take.ensures.line)

pub returns-clause-read : goal.returns-clause-read
returns-clause-read c = all_read c.args.text.now _ _ _ c.loop-line.invariant.behind c.in-None.ensures.steps.0
