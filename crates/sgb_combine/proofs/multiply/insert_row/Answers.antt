use Rattle.std.proofs.Common.{◌≡◌, ◌+◌, ◌*◌, true, arith, ap, subst, ◌∙◌}
use Rattle.std.proofs.lemmas.Result.{err_from_is_err_and}
use Rattle.sgb_graph.specs.Graph.{n_of}
use Rattle.sgb_graph.specs.Builder.{grown}
use Rattle.sgb_graph.proofs.InsertionRuns.{RefusesInsertions, from_some, from_refused, from_end, from_n}
use Rattle.sgb_combine.proofs.SpokeBounds.{within_as}
use Rattle.sgb_combine.proofs.GraphRows.{row_sound, below_k, pruned_as}
use Rattle.sgb_combine.proofs.multiply.insert_row.Goals as goal

pub insert_pair-requires-clause-few : goal.insert_pair-requires-clause-few
insert_pair-requires-clause-few c = let few = c.requires.few in omega (arith, from_n c.loop-b.invariant)

pub insert_pair-requires-clause-row : goal.insert_pair-requires-clause-row
insert_pair-requires-clause-row c =
    let row = c.requires.row in
    let same : c.args.a * c.n-k.result + c.n-k.result ≡ c.args.a * n_of c.args.second.now + n_of c.args.second.now = ap (λ k. c.args.a * k + k) c.n-k.ensures.value in
    omega (arith, row, same, from_n c.loop-b.invariant)

pub insert_pair-requires-clause-from : goal.insert_pair-requires-clause-from
insert_pair-requires-clause-from c i d h =
    rw (c.n-k.ensures.value, from_n c.loop-b.invariant) (c.requires.from i d h)

pub insert_pair-requires-clause-above : goal.insert_pair-requires-clause-above
insert_pair-requires-clause-above c i d h =
    rw (c.n-k.ensures.value, from_n c.loop-b.invariant) (c.requires.above i d h)

pub insert_pair-requires-clause-all : goal.insert_pair-requires-clause-all
insert_pair-requires-clause-all c =
    let low = below_k c.loop-b-test.true c.n-k.ensures.value in
    within_as (c.row.ensures ∙ (c.requires.all.cut c.loop-b.b low).row) c.n-k.ensures.value (row_sound true c.args.spec.directed c.args.second.now c.loop-b.b c.n-k.ensures.graph low)

pub insert_pair-requires-clause-upward : goal.insert_pair-requires-clause-upward
insert_pair-requires-clause-upward c =
    let low = below_k c.loop-b-test.true c.n-k.ensures.value in
    within_as (c.row-in-loop-b.ensures ∙ (c.requires.upward.cut c.loop-b.b low).row) c.n-k.ensures.value (row_sound c.args.spec.directed c.args.spec.directed c.args.second.now c.loop-b.b c.n-k.ensures.graph low)

pub returns-in_err-insert_pair : goal.returns-in_err-insert_pair
returns-in_err-insert_pair c =
    let p = err_from_is_err_and c.from_residual.result c.from_residual.ensures.1 in
    let x = c.args in
    let low = below_k c.loop-b-test.true c.n-k.ensures.value in
    let same = pruned_as x.spec x.second.now x.a c.loop-b.b c.n-k.result x.from.now x.above.now c.row.result.now c.row-in-loop-b.result.now c.n-k.ensures.value (c.row.ensures ∙ (c.requires.all.cut c.loop-b.b low).row) (c.row-in-loop-b.ensures ∙ (c.requires.upward.cut c.loop-b.b low).row) in
    rw (p.1, p.2) (from_refused low c.loop-b.invariant (subst (λ es. RefusesInsertions c.loop-b.builder es c.in_err-insert_pair.field-0.0) same c.in_err-insert_pair.ensures))

pub loop-b-preserved : goal.loop-b-preserved
loop-b-preserved c =
    let x = c.args in
    let low = below_k c.loop-b-test.true c.n-k.ensures.value in
    let same = pruned_as x.spec x.second.now x.a c.loop-b.b c.n-k.result x.from.now x.above.now c.row.result.now c.row-in-loop-b.result.now c.n-k.ensures.value (c.row.ensures ∙ (c.requires.all.cut c.loop-b.b low).row) (c.row-in-loop-b.ensures ∙ (c.requires.upward.cut c.loop-b.b low).row) in
    from_some low c.loop-b.invariant (c.in_ok-insert_pair.ensures ∙ ap (grown c.loop-b.builder) same)

pub returns : goal.returns
returns c = from_end (omega (arith, c.n-k.ensures.value)) c.loop-b.invariant
