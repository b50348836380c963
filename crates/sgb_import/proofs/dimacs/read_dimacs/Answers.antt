use Rattle.std.proofs.Common.{◌<◌, ◌-◌, ◌^◌, length, inr, arith}
use Rattle.std.proofs.lemmas.Result.{err_from_is_err_and}
use Rattle.sgb_import.proofs.DimacsOutlines.{read_sound}
use Rattle.sgb_import.proofs.DimacsReading.{id_refusal, line_refusal, all_finished, all_unfinished}
use Rattle.sgb_import.proofs.dimacs.read_dimacs.Goals as goal

pub returns-in_err-id-clause-err : goal.returns-in_err-id-clause-err
returns-in_err-id-clause-err c =
    let p = err_from_is_err_and c.from_residual.result c.from_residual.ensures.1 in
    rw (p.1, p.2) (inr (id_refusal c.args.text.now _ c.in_err-id.ensures.err))

pub returns-in_err-reader-clause-err : goal.returns-in_err-reader-clause-err
returns-in_err-reader-clause-err c =
    let p = err_from_is_err_and c.from_residual-in_err-reader.result c.from_residual-in_err-reader.ensures.1 in
    rw (p.1, p.2) (line_refusal c.args.text.now _ c.in_ok-id.ensures.id.0 c.in_err-reader.ensures.err)

pub returns-clause-value : goal.returns-clause-value
returns-clause-value c =
    let low : length c.in_ok-reader.reader.links.items < 2 ^ 64 - 1 = omega arith in
    (all_finished c.args.text.now c.in_ok-reader.reader c.in_ok-id.id.now low c.in_ok-id.ensures.id c.in_ok-reader.ensures.read c.finish.result c.finish.ensures.outline).outline

pub returns-clause-none : goal.returns-clause-none
returns-clause-none c =
    let low : length c.in_ok-reader.reader.links.items < 2 ^ 64 - 1 = omega arith in
    (all_finished c.args.text.now c.in_ok-reader.reader c.in_ok-id.id.now low c.in_ok-id.ensures.id c.in_ok-reader.ensures.read c.finish.result c.finish.ensures.outline).ok

pub returns-clause-outline : goal.returns-clause-outline
returns-clause-outline c =
    let low : length c.in_ok-reader.reader.links.items < 2 ^ 64 - 1 = omega arith in
    let all = all_finished c.args.text.now c.in_ok-reader.reader c.in_ok-id.id.now low c.in_ok-id.ensures.id c.in_ok-reader.ensures.read c.finish.result c.finish.ensures.outline in
    read_sound c.args.text.now c.finish.result all.ok all.outline

pub returns-clause-err : goal.returns-clause-err
returns-clause-err c =
    let low : length c.in_ok-reader.reader.links.items < 2 ^ 64 - 1 = omega arith in
    all_unfinished c.args.text.now c.in_ok-reader.reader low c.in_ok-id.ensures.id.0 c.in_ok-reader.ensures.read c.finish.result c.finish.ensures.err
