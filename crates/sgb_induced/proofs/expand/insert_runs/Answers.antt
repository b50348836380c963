use Rattle.std.proofs.Common.{get_or, ap, subst, ◌∙◌, arith}
use Rattle.std.proofs.lemmas.Result.{err_from_is_err_and}
use Rattle.sgb_graph.specs.Builder.{grown}
use Rattle.sgb_graph.proofs.InsertionRuns.{RefusesInsertions, of_end, of_n}
use Rattle.sgb_induced.specs.declared.run.Run.{Run}
use Rattle.sgb_induced.proofs.RunInsertions.{at_some, at_refused, expanded_is, no_run, within_at}
use Rattle.sgb_induced.proofs.expand.insert_runs.Goals as goal

pub insert_between-requires-clause-from : goal.insert_between-requires-clause-from
insert_between-requires-clause-from c = within_at _ _ _ _ _ c.image_at-from.ensures c.requires.within (of_n c.loop-run.invariant)

pub insert_between-requires-clause-to : goal.insert_between-requires-clause-to
insert_between-requires-clause-to c = within_at _ _ _ _ _ c.image_at-to.ensures c.requires.within (of_n c.loop-run.invariant)

pub insert_between-requires-clause-few : goal.insert_between-requires-clause-few
insert_between-requires-clause-few c = omega (arith, c.requires.few, of_n c.loop-run.invariant)

pub returns-in_err-insert_between : goal.returns-in_err-insert_between
returns-in_err-insert_between c =
    let p = err_from_is_err_and c.from_residual.result c.from_residual.ensures.1 in
    let run : Run = get_or c.args.runs.now c.loop-run.run-index no_run in
    let same = expanded_is c.args.loops c.args.directed c.args.images.now c.image_at-from.result c.image_at-to.result run c.image_at-from.ensures c.image_at-to.ensures in
    rw (p.1, p.2) (at_refused no_run (omega arith) c.loop-run.invariant (subst (λ es. RefusesInsertions c.loop-run.builder es c.in_err-insert_between.field-0.0) same c.in_err-insert_between.ensures))

pub loop-run-preserved : goal.loop-run-preserved
loop-run-preserved c =
    let run : Run = get_or c.args.runs.now c.loop-run.run-index no_run in
    at_some no_run (omega arith) c.loop-run.invariant
    (c.in_ok-insert_between.ensures ∙ ap (grown c.loop-run.builder) (expanded_is c.args.loops c.args.directed c.args.images.now c.image_at-from.result c.image_at-to.result run c.image_at-from.ensures c.image_at-to.ensures))

pub returns : goal.returns
returns c = of_end (omega arith) c.loop-run.invariant
