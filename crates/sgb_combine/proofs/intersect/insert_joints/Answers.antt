use Rattle.std.proofs.Common.{arith}
use Rattle.std.proofs.lemmas.List.{get_or_default}
use Rattle.std.proofs.lemmas.Result.{err_from_is_err_and}
use Rattle.sgb_graph.proofs.InsertionRuns.{of_some, of_refused, of_end, of_n}
use Rattle.sgb_combine.proofs.SpokeBounds.{spoke_in, no_spoke}
use Rattle.sgb_combine.proofs.intersect.insert_joints.Goals as goal

pub insert_joint-requires-clause-from : goal.insert_joint-requires-clause-from
insert_joint-requires-clause-from c = let low = c.requires.from in omega (arith, of_n c.loop-spoke.invariant)

pub insert_joint-requires-clause-to : goal.insert_joint-requires-clause-to
insert_joint-requires-clause-to c = omega (arith, of_n c.loop-spoke.invariant, c.requires.to c.loop-spoke.spoke-index no_spoke (omega arith))

pub returns-in_err-insert_joint : goal.returns-in_err-insert_joint
returns-in_err-insert_joint c =
    let p = err_from_is_err_and c.from_residual.result c.from_residual.ensures.1 in
    let i = c.loop-spoke.spoke-index in
    let ss = c.args.firsts.now in
    rw (p.1, p.2) (of_refused (omega arith) (get_or_default ss i no_spoke (spoke_in ss i) (omega arith)) c.loop-spoke.invariant c.in_err-insert_joint.ensures)

pub loop-spoke-preserved : goal.loop-spoke-preserved
loop-spoke-preserved c =
    let i = c.loop-spoke.spoke-index in
    let ss = c.args.firsts.now in
    of_some (omega arith) (get_or_default ss i no_spoke (spoke_in ss i) (omega arith)) c.loop-spoke.invariant c.in_ok-insert_joint.ensures

pub returns : goal.returns
returns c = of_end (omega arith) c.loop-spoke.invariant
