use Rattle.std.proofs.Common.{arith}
use Rattle.std.proofs.lemmas.Result.{err_from_is_err_and}
use Rattle.sgb_graph.proofs.InsertionRuns.{from_some, from_refused, from_end, from_n}
use Rattle.sgb_graph_tests.proofs.plan.example.insert_steps.Goals as goal

pub insert-requires-clause-from : goal.insert-requires-clause-from
insert-requires-clause-from c = omega (arith, from_n c.loop-v.invariant)

pub insert-requires-clause-to : goal.insert-requires-clause-to
insert-requires-clause-to c = omega (arith, from_n c.loop-v.invariant)

pub returns-in_err-insert : goal.returns-in_err-insert
returns-in_err-insert c =
    let p = err_from_is_err_and c.from_residual.result c.from_residual.ensures.1 in
    rw (p.1, p.2) (from_refused (omega arith) c.loop-v.invariant c.in_err-insert.ensures.value)

pub loop-v-preserved : goal.loop-v-preserved
loop-v-preserved c = from_some (omega arith) c.loop-v.invariant c.in_ok-insert.ensures.value

pub returns : goal.returns
returns c = from_end (omega arith) c.loop-v.invariant
