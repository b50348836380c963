use Rattle.std.proofs.Common.{get_or, arith}
use Rattle.std.proofs.lemmas.List.{get_or_default}
use Rattle.std.proofs.lemmas.Result.{err_from_is_err_and}
use Rattle.sgb_graph.proofs.InsertionRuns.{of_some, of_refused, of_end, of_n}
use Rattle.sgb_combine.proofs.negate.insert_steps.Goals as goal

pub insert-requires-clause-from : goal.insert-requires-clause-from
insert-requires-clause-from c = let low = c.requires.from in omega (arith, of_n c.loop-tip.invariant)

pub insert-requires-clause-to : goal.insert-requires-clause-to
insert-requires-clause-to c = omega (arith, of_n c.loop-tip.invariant, c.requires.to c.loop-tip.tip-index 0 (omega arith))

pub returns-in_err-insert : goal.returns-in_err-insert
returns-in_err-insert c =
    let p = err_from_is_err_and c.from_residual.result c.from_residual.ensures.1 in
    let i = c.loop-tip.tip-index in
    let ws = c.args.tips.now in
    rw (p.1, p.2) (of_refused (omega arith) (get_or_default ws i 0 (get_or ws i 0) (omega arith)) c.loop-tip.invariant c.in_err-insert.ensures.value)

pub loop-tip-preserved : goal.loop-tip-preserved
loop-tip-preserved c =
    let i = c.loop-tip.tip-index in
    let ws = c.args.tips.now in
    of_some (omega arith) (get_or_default ws i 0 (get_or ws i 0) (omega arith)) c.loop-tip.invariant c.in_ok-insert.ensures.value

pub returns : goal.returns
returns c = of_end (omega arith) c.loop-tip.invariant
