use Rattle.std.proofs.Common.{refl, sym, subst, length}
use Rattle.std.proofs.lemmas.Result.{err_from_is_err_and}
use Rattle.sgb_shell.specs.Private.Reaching.{Progress}
use Rattle.sgb_shell.proofs.Bytes.{bytes_taken, line_taken, line_failed, few_before}
use Rattle.sgb_shell.proofs.reader.LineReader.take_front.Goals as goal

pub returns-in_default-clause-takes : goal.returns-in_default-clause-takes
returns-in_default-clause-takes g c held script few p =
    (bytes_taken held _ script c.args.bytes.now (length c.args.bytes.now) _ _ refl c.in_default.ensures refl c.extend.ensures (subst (Progress held _ script) (sym c.self.view_is) p), refl)

pub returns-in_err-take_end-clause-takes : goal.returns-in_err-take_end-clause-takes
returns-in_err-take_end-clause-takes g c held script few p =
    let failed = (c.in_err-take_end.ensures held script (few_before script c.args.bytes.now few) p).finishes in
    let r = err_from_is_err_and c.from_residual.result c.from_residual.ensures.1 in
    rw r.1 (line_failed script c.args.bytes.now _ c.in-Some.ensures held _ failed.0, failed.1)

pub returns-clause-takes : goal.returns-clause-takes
returns-clause-takes g c held script few p =
    let taken = c.in_ok-take_end.ensures held script (few_before script c.args.bytes.now few) p in
    (line_taken script c.args.bytes.now _ c.in-Some.ensures held _ _ taken.line taken.finishes.0, taken.finishes.1)
