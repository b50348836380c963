use Rattle.std.proofs.Common.{map, arith, ap, subst, ◌∙◌}
use Rattle.std.proofs.lemmas.Result.{err_from_is_err_and}
use Rattle.sgb_graph.specs.declared.builder.Builder.{Builder}
use Rattle.sgb_graph.specs.Graph.{n_of}
use Rattle.sgb_graph.specs.Builder.{along, Inserts, grown}
use Rattle.sgb_graph.proofs.Insertions.{n-grown, Inserts-append}
use Rattle.sgb_graph.proofs.InsertionRuns.{RefusesInsertions}
use Rattle.sgb_combine.specs.Product.{has_single, has_double, pair_number}
use Rattle.sgb_combine.specs.Private.Pruned.{singles, doubles}
use Rattle.sgb_combine.proofs.ProductRows.{refused_first, pruned_two}
use Rattle.sgb_combine.proofs.multiply.insert_pair.Goals as goal

pub returns-in_err-insert_singles : goal.returns-in_err-insert_singles
returns-in_err-insert_singles c =
    let p = err_from_is_err_and c.from_residual.result c.from_residual.ensures.1 in
    let x = c.args in
    let n = pair_number x.k x.a x.b in
    let first = subst (λ t. RefusesInsertions x.builder.now (map (along n) (singles t x.k x.a x.b x.from.now x.upward.now)) c.in_err-insert_singles.field-0.0) c.has_single.ensures c.in_err-insert_singles.ensures in
    rw (p.1, p.2)
    (subst (λ es. RefusesInsertions x.builder.now es c.in_err-insert_singles.field-0.0) (pruned_two x.spec x.k x.a x.b x.from.now x.above.now x.all.now x.upward.now)
    (refused_first x.builder.now c.in_err-insert_singles.field-0.0 (map (along n) (singles (has_single x.spec.kind) x.k x.a x.b x.from.now x.upward.now)) (map (along n) (doubles (has_double x.spec.kind) x.spec.directed x.k x.a x.from.now x.above.now x.all.now x.upward.now)) first))

pub insert_doubles-requires-clause-few : goal.insert_doubles-requires-clause-few
insert_doubles-requires-clause-few c =
    let few = c.requires.few in
    let same = ap (λ (b : Builder). n_of b.graph) c.in_ok-insert_singles.ensures ∙ n-grown c.args.builder.now _ in
    omega (arith, few, same)

pub insert_doubles-requires-clause-number : goal.insert_doubles-requires-clause-number
insert_doubles-requires-clause-number c =
    let row = c.requires.row in
    let low = c.requires.b in
    let same = ap (λ (b : Builder). n_of b.graph) c.in_ok-insert_singles.ensures ∙ n-grown c.args.builder.now _ in
    omega (arith, row, low, same)

pub insert_doubles-requires-clause-from : goal.insert_doubles-requires-clause-from
insert_doubles-requires-clause-from c i d h =
    let same = ap (λ (b : Builder). n_of b.graph) c.in_ok-insert_singles.ensures ∙ n-grown c.args.builder.now _ in
    let low = c.requires.from i d h in
    omega (arith, same, low)

pub insert_doubles-requires-clause-above : goal.insert_doubles-requires-clause-above
insert_doubles-requires-clause-above c i d h =
    let same = ap (λ (b : Builder). n_of b.graph) c.in_ok-insert_singles.ensures ∙ n-grown c.args.builder.now _ in
    let low = c.requires.above i d h in
    omega (arith, same, low)

pub returns : goal.returns
returns c =
    let x = c.args in
    let n = pair_number x.k x.a x.b in
    let then_so = subst (λ t. Inserts c.insert_singles.new.builder c.insert_doubles.new.builder (map (along n) (doubles t x.spec.directed x.k x.a x.from.now x.above.now x.all.now x.upward.now)) c.insert_doubles.result) c.has_double-pairs.ensures c.insert_doubles.ensures in
    let done = c.in_ok-insert_singles.ensures ∙ ap (λ t. grown x.builder.now (map (along n) (singles t x.k x.a x.b x.from.now x.upward.now))) c.has_single.ensures in
    subst (λ es. Inserts x.builder.now c.insert_doubles.new.builder es c.insert_doubles.result) (pruned_two x.spec x.k x.a x.b x.from.now x.above.now x.all.now x.upward.now)
    (Inserts-append x.builder.now c.insert_singles.new.builder c.insert_doubles.new.builder (map (along n) (singles (has_single x.spec.kind) x.k x.a x.b x.from.now x.upward.now)) (map (along n) (doubles (has_double x.spec.kind) x.spec.directed x.k x.a x.from.now x.above.now x.all.now x.upward.now)) c.insert_doubles.result c.in_ok-insert_singles.field-0 done then_so)
