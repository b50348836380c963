use Rattle.std.proofs.Common.{length, ◌++◌, sym, ap₂, subst, ◌∙◌, arith}
use Rattle.std.proofs.lemmas.Result.{err_from_is_err_and}
use Rattle.sgb_graph.proofs.InsertionRuns.{LeftFrom, from_some, from_refused, from_end, from_n}
use Rattle.sgb_perms.specs.Perms.{exchanges, exchanges_of, row_at}
use Rattle.sgb_perms.proofs.Moves.{exchanges_start}
use Rattle.sgb_perms.proofs.exchanges.insert_exchanges.Goals as goal

pub loop-v-init : goal.loop-v-init
loop-v-init c =
    let rows = c.args.rows.now.rows in
    subst (λ b. LeftFrom c.args.builder.now (exchanges rows) b (λ v. exchanges_of rows v (row_at rows v)) 0 (length rows)) (sym c.in_ok-reserve.ensures.same)
    (exchanges_start c.args.builder.now rows)

pub insert_to-requires-clause-vertices : goal.insert_to-requires-clause-vertices
insert_to-requires-clause-vertices c = from_n c.loop-v.invariant ∙ c.requires.vertices

pub insert_to-requires-clause-moved : goal.insert_to-requires-clause-moved
insert_to-requires-clause-moved c =
    c.deref_mut.ensures.value ∙ (c.in_ok-extend_from_slice.ensures.items ∙ ap₂ (λ xs ys. xs ++ ys) c.clear.ensures.items c.row.ensures.value)

pub returns-in_err-insert_to : goal.returns-in_err-insert_to
returns-in_err-insert_to c =
    let p = err_from_is_err_and c.from_residual-in_err-insert_to.result c.from_residual-in_err-insert_to.ensures.1 in
    rw (p.1, p.2) (from_refused (omega (arith, c.len-v-end.ensures.value)) c.loop-v.invariant c.in_err-insert_to.ensures)

pub loop-v-preserved : goal.loop-v-preserved
loop-v-preserved c = from_some (omega (arith, c.len-v-end.ensures.value)) c.loop-v.invariant c.in_ok-insert_to.ensures

pub returns : goal.returns
returns c = from_end (omega (arith, c.len-v-end.ensures.value)) c.loop-v.invariant
