use Rattle.std.proofs.Common.{◌∙◌, arith}
use Rattle.std.proofs.lemmas.Result.{err_from_is_err_and}
use Rattle.sgb_graph.proofs.InsertionRuns.{from_some, from_refused, from_end, from_n}
use Rattle.sgb_simplex.specs.Points.{points}
use Rattle.sgb_simplex.proofs.MoveInsertions.{moves_to_begin}
use Rattle.sgb_simplex.proofs.moves.insert_moves_to.Goals as goal

pub loop-j-init : goal.loop-j-init
loop-j-init c = let list = c.args.list.now in moves_to_begin c.args.builder.now (points list.total list.bounds.items) list.bounds.items c.args.v c.args.point.now c.saturating_sub-j-end.result (omega (arith, list.bounds.ok.0))

pub insert_moves_from-requires-clause-all : goal.insert_moves_from-requires-clause-all
insert_moves_from-requires-clause-all c = from_n c.loop-j.invariant ∙ c.requires.all

pub returns-in_err-insert_moves_from : goal.returns-in_err-insert_moves_from
returns-in_err-insert_moves_from c =
    let p = err_from_is_err_and c.from_residual.result c.from_residual.ensures.1 in
    rw (p.1, p.2) (from_refused (omega arith) c.loop-j.invariant c.in_err-insert_moves_from.ensures)

pub loop-j-preserved : goal.loop-j-preserved
loop-j-preserved c = from_some (omega arith) c.loop-j.invariant c.in_ok-insert_moves_from.ensures

pub returns : goal.returns
returns c = from_end (omega arith) c.loop-j.invariant
