use Rattle.std.proofs.Common.{ap, subst, sym, ◌∙◌, arith}
use Rattle.std.proofs.lemmas.Result.{err_from_is_err_and}
use Rattle.sgb_graph.proofs.InsertionRuns.{LeftFrom, RefusesInsertions, from_some, from_refused, from_end, from_n}
use Rattle.sgb_graph.specs.Builder.{grown}
use Rattle.sgb_simplex.specs.Moves.{moves, moves_to}
use Rattle.sgb_simplex.specs.Points.{points}
use Rattle.sgb_simplex.proofs.MoveInsertions.{moves_at, moves_begin}
use Rattle.sgb_simplex.proofs.moves.insert_moves.Goals as goal

pub loop-v-init : goal.loop-v-init
loop-v-init c =
    let list = c.args.list.now in
    let all = points list.total list.bounds.items in
    subst (λ b. LeftFrom c.args.builder.now (moves all list.bounds.items) b (moves_at all list.bounds.items) 0 list.count) (sym c.reserve.ensures.same)
    (moves_begin c.args.builder.now all list.bounds.items list.count list.counted)

pub insert_moves_to-requires-clause-all : goal.insert_moves_to-requires-clause-all
insert_moves_to-requires-clause-all c = from_n c.loop-v.invariant ∙ c.requires

pub returns-in_err-insert_moves_to : goal.returns-in_err-insert_moves_to
returns-in_err-insert_moves_to c =
    let p = err_from_is_err_and c.from_residual-in_err-insert_moves_to.result c.from_residual-in_err-insert_moves_to.ensures.1 in
    rw (p.1, p.2) (from_refused (omega arith) c.loop-v.invariant
    (subst (λ t. RefusesInsertions c.loop-v.builder (moves_to (points c.args.list.now.total c.args.list.now.bounds.items) c.args.list.now.bounds.items c.loop-v.v t) c.in_err-insert_moves_to.field-0.0) c.point.ensures.value c.in_err-insert_moves_to.ensures))

pub loop-v-preserved : goal.loop-v-preserved
loop-v-preserved c = from_some (omega arith) c.loop-v.invariant
    (c.in_ok-insert_moves_to.ensures
    ∙ ap (λ t. grown c.loop-v.builder (moves_to (points c.args.list.now.total c.args.list.now.bounds.items) c.args.list.now.bounds.items c.loop-v.v t)) c.point.ensures.value)

pub returns : goal.returns
returns c = from_end (omega arith) c.loop-v.invariant
