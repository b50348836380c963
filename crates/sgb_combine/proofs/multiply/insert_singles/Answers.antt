use Rattle.std.proofs.Common.{◌*◌, map, arith, ap, subst, ◌∙◌}
use Rattle.std.proofs.lemmas.Result.{err_from_is_err_and}
use Rattle.sgb_graph.specs.declared.builder.Builder.{Builder}
use Rattle.sgb_graph.specs.Graph.{n_of}
use Rattle.sgb_graph.specs.Builder.{along, Inserts}
use Rattle.sgb_graph.proofs.Insertions.{n-grown, Inserts-append}
use Rattle.sgb_graph.proofs.InsertionRuns.{RefusesInsertions}
use Rattle.sgb_combine.specs.Private.Pruned.{scaled}
use Rattle.sgb_combine.proofs.ProductRows.{refused_first, none_inserted, singles_none, singles_two}
use Rattle.sgb_combine.proofs.multiply.insert_singles.Goals as goal

pub returns-then-not-single : goal.returns-then-not-single
returns-then-not-single c =
    none_inserted c.args.builder.now _ (singles_none c.args.single c.args.number.0 c.args.k c.args.a c.args.b c.args.from.now c.args.upward.now c.if-not-single.true)

pub returns-in_err-insert_scaled : goal.returns-in_err-insert_scaled
returns-in_err-insert_scaled c =
    let p = err_from_is_err_and c.from_residual.result c.from_residual.ensures.1 in
    let n = c.args.number.0 in
    let both = singles_two c.args.single n c.args.k c.args.a c.args.b c.args.from.now c.args.upward.now c.if-not-single.false in
    rw (p.1, p.2)
    (subst (λ es. RefusesInsertions c.args.builder.now es c.in_err-insert_scaled.field-0.0) both
    (refused_first c.args.builder.now c.in_err-insert_scaled.field-0.0 (map (along n) (map (scaled c.args.k c.args.b) c.args.from.now)) (map (along n) (map (scaled 1 (c.args.a * c.args.k)) c.args.upward.now)) c.in_err-insert_scaled.ensures))

pub insert_scaled-requires-2-clause-few : goal.insert_scaled-requires-2-clause-few
insert_scaled-requires-2-clause-few c =
    let few = c.requires.few in
    let same = ap (λ (b : Builder). n_of b.graph) c.in_ok-insert_scaled.ensures ∙ n-grown c.args.builder.now _ in
    omega (arith, few, same)

pub insert_scaled-requires-2-clause-number : goal.insert_scaled-requires-2-clause-number
insert_scaled-requires-2-clause-number c =
    let low = c.requires.number in
    let same = ap (λ (b : Builder). n_of b.graph) c.in_ok-insert_scaled.ensures ∙ n-grown c.args.builder.now _ in
    omega (arith, low, same)

pub insert_scaled-requires-2-clause-to : goal.insert_scaled-requires-2-clause-to
insert_scaled-requires-2-clause-to c i d h =
    let row = c.requires.row in
    let same = ap (λ (b : Builder). n_of b.graph) c.in_ok-insert_scaled.ensures ∙ n-grown c.args.builder.now _ in
    let low = c.requires.upward i d h in
    omega (arith, row, same, low)

pub returns : goal.returns
returns c =
    let n = c.args.number.0 in
    let both = singles_two c.args.single n c.args.k c.args.a c.args.b c.args.from.now c.args.upward.now c.if-not-single.false in
    subst (λ es. Inserts c.args.builder.now c.insert_scaled-2.new.builder es c.insert_scaled-2.result) both
    (Inserts-append c.args.builder.now c.insert_scaled.new.builder c.insert_scaled-2.new.builder (map (along n) (map (scaled c.args.k c.args.b) c.args.from.now)) (map (along n) (map (scaled 1 (c.args.a * c.args.k)) c.args.upward.now)) c.insert_scaled-2.result c.in_ok-insert_scaled.field-0 c.in_ok-insert_scaled.ensures c.insert_scaled-2.ensures)
