use Rattle.std.proofs.Common.{nat_lt, ◌∙◌, arith}
use Rattle.std.proofs.lemmas.Result.{err_from_is_err_and}
use Rattle.sgb_graph.proofs.InsertionRuns.{from_some, from_refused, from_end, from_n}
use Rattle.std.specs.List.{slice_index}
use Rattle.sgb_simplex.specs.Moves.{moves_from}
use Rattle.sgb_simplex.specs.Points.{points}
use Rattle.sgb_simplex.proofs.MoveInsertions.{moves_from_begin, none_inserted, none_to_take}
use Rattle.sgb_simplex.proofs.moves.insert_moves_from.Goals as goal

pub loop-k-init : goal.loop-k-init
loop-k-init c = let list = c.args.list.now in moves_from_begin c.args.builder.now (points list.total list.bounds.items) list.bounds.items c.args.v c.args.point.now c.args.j c.len-k-end.result (omega (arith, list.bounds.ok.0)) (omega arith)

pub insert_move-requires-clause-all : goal.insert_move-requires-clause-all
insert_move-requires-clause-all c = from_n c.loop-k.invariant ∙ c.requires.all

pub returns-in_err-insert_move : goal.returns-in_err-insert_move
returns-in_err-insert_move c =
    let p = err_from_is_err_and c.from_residual.result c.from_residual.ensures.1 in
    rw (p.1, p.2) (from_refused (omega arith) c.loop-k.invariant c.in_err-insert_move.ensures)

pub loop-k-preserved : goal.loop-k-preserved
loop-k-preserved c = from_some (omega arith) c.loop-k.invariant c.in_ok-insert_move.ensures

pub returns : goal.returns
returns c = from_end (omega arith) c.loop-k.invariant

pub returns-then-point-j-eq0 : goal.returns-then-point-j-eq0
returns-then-point-j-eq0 c =
    let list = c.args.list.now in
    none_inserted c.args.builder.now (nat_lt 0 (slice_index c.args.point.now c.args.j)) (moves_from (points list.total list.bounds.items) list.bounds.items c.args.v c.args.point.now c.args.j) (none_to_take c.args.point.now c.args.j c.if-point-j-eq0.true)
