use Rattle.std.proofs.Common.{arith}
use Rattle.std.proofs.lemmas.Result.{err_from_is_err_and}
use Rattle.sgb_graph.proofs.InsertionRuns.{from_some, from_refused, from_end, from_n}
use Rattle.sgb_induced.specs.Private.Run.{between}
use Rattle.sgb_induced.proofs.RunInsertions.{begin_at}
use Rattle.sgb_induced.proofs.expand.insert_between.Goals as goal

pub loop-x-init : goal.loop-x-init
loop-x-init c = begin_at c.args.builder.now _ c.args.from.start c.args.from.count

pub insert_from-requires-clause-from : goal.insert_from-requires-clause-from
insert_from-requires-clause-from c = omega (arith, c.requires.from, from_n c.loop-x.invariant)

pub insert_from-requires-clause-to : goal.insert_from-requires-clause-to
insert_from-requires-clause-to c = omega (arith, c.requires.to, from_n c.loop-x.invariant)

pub insert_from-requires-clause-few : goal.insert_from-requires-clause-few
insert_from-requires-clause-few c = omega (arith, c.requires.few, from_n c.loop-x.invariant)

pub returns-in_err-insert_from : goal.returns-in_err-insert_from
unfolding between
returns-in_err-insert_from c =
    let p = err_from_is_err_and c.from_residual.result c.from_residual.ensures.1 in
    rw (p.1, p.2) (from_refused (omega arith) c.loop-x.invariant c.in_err-insert_from.ensures)

pub loop-x-preserved : goal.loop-x-preserved
loop-x-preserved c = from_some (omega arith) c.loop-x.invariant c.in_ok-insert_from.ensures

pub returns : goal.returns
unfolding between
returns c = from_end (omega arith) c.loop-x.invariant
