use Rattle.std.proofs.Common.{◌∙◌, arith}
use Rattle.std.proofs.Math.ListN.{length-set}
use Rattle.sgb_grammar.specs.Field.{field_at}
use Rattle.sgb_grammar.proofs.ItemSequences.{kind_more, kind_stops, kind_all, fails_along}
use Rattle.sgb_grammar.proofs.fields.fields.Goals as goal

pub returns-in-Err : goal.returns-in-Err
returns-in-Err c =
    fails_along _ _ _ c.in-Err.ensures
    (λ none. c.letters.invariant.1 ∙ kind_stops field_at c.args.letters.now 0 c.letters.i c.letters.rest.now _ (omega arith) none)

pub letters-preserved : goal.letters-preserved
letters-preserved c = (
  simp length-set c.letters.invariant.0,
  c.letters.invariant.1
      ∙ kind_more field_at c.args.letters.now 0 c.letters.i c.letters.rest.now c.in-Ok.behind.now c.letters.fields c.in-Ok.value (omega arith) (omega (arith, c.letters.invariant.0)) c.in-Ok.ensures,
)

pub returns : goal.returns
returns c = c.letters.invariant.1 ∙ kind_all field_at c.args.letters.now c.letters.i _ c.letters.fields (omega arith) (omega (arith, c.letters.invariant.0))
