use Rattle.std.proofs.Common.{◌∙◌, ap, refl, arith, ◌++◌, ◌∷◌, []}
use Rattle.sgb_graph.proofs.Cells.{kept-fill}
use Rattle.sgb_graph.specs.Private.Cells.{kept_at}
use Rattle.sgb_graph.proofs.graph.fields.fill_to.Goals as goal

pub loop-number-init : goal.loop-number-init
loop-number-init c = record { same = λ j. refl; len = omega arith; capacity = refl }

pub push_reserved-requires : goal.push_reserved-requires
push_reserved-requires c = omega (arith, c.loop-number.invariant.len, c.loop-number.invariant.capacity, c.requires.room)

pub loop-number-preserved : goal.loop-number-preserved
loop-number-preserved c = record {
  same = λ j. ap (λ l. kept_at l j) (c.push_reserved.ensures.items ∙ ap (λ us. c.loop-number.fields.items ++ us ∷ []) c.two_zeros.ensures) ∙ (kept-fill c.loop-number.fields.items j ∙ c.loop-number.invariant.same j);
  len = omega (arith, c.push_reserved.ensures.len, c.loop-number.invariant.len);
  capacity = c.push_reserved.ensures.capacity ∙ c.loop-number.invariant.capacity;
}

pub returns-clause-same : goal.returns-clause-same
returns-clause-same c = c.loop-number.invariant.same

pub returns-clause-len : goal.returns-clause-len
returns-clause-len c = omega (arith, c.loop-number.invariant.len, c.requires.fewer)
