use Rattle.std.proofs.Common.{sym, subst, ◌∙◌}
use Rattle.sgb_graph.specs.Builder.{Inserts}
use Rattle.sgb_combine.proofs.ProductRows.{none_inserted, doubles_none, doubles_empty, doubles_above, doubles_from}
use Rattle.sgb_combine.proofs.multiply.insert_doubles.Goals as goal

pub returns-then-not-pairs : goal.returns-then-not-pairs
returns-then-not-pairs c =
    let x = c.args in
    none_inserted x.builder.now _ (doubles_none x.pairs x.directed x.number.0 x.k x.a x.from.now x.above.now x.all.now x.upward.now c.if-not-pairs.true)

pub returns-then-is_empty : goal.returns-then-is_empty
returns-then-is_empty c =
    let x = c.args in
    none_inserted x.builder.now _ (doubles_empty x.pairs x.directed x.number.0 x.k x.a x.from.now x.above.now x.all.now x.upward.now c.if-not-pairs.false (sym c.is_empty.ensures ∙ c.if-is_empty.true))

pub returns-then-is_empty-2 : goal.returns-then-is_empty-2
returns-then-is_empty-2 c =
    let x = c.args in
    subst (λ es. Inserts x.builder.now c.insert_over.new.builder es c.insert_over.result)
    (doubles_above x.pairs x.directed x.number.0 x.k x.a x.from.now x.above.now x.all.now x.upward.now c.if-not-pairs.false (sym c.is_empty.ensures ∙ c.if-is_empty.false) (sym c.is_empty-2.ensures ∙ c.if-is_empty-2.true))
    c.insert_over.ensures

pub returns : goal.returns
returns c =
    let x = c.args in
    subst (λ es. Inserts x.builder.now c.insert_over-2.new.builder es c.insert_over-2.result)
    (doubles_from x.pairs x.directed x.number.0 x.k x.a x.from.now x.above.now x.all.now x.upward.now c.if-not-pairs.false (sym c.is_empty.ensures ∙ c.if-is_empty.false) (sym c.is_empty-2.ensures ∙ c.if-is_empty-2.false))
    c.insert_over-2.ensures
