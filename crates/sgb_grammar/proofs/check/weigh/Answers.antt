use Rattle.std.proofs.Common.{◌-◌, ◌%◌, ◌^◌, refl, sym, ap, ◌∙◌, arith}
use Rattle.std.proofs.Math.Nat.{mod-lt}
use Rattle.sgb_grammar.proofs.LineWeights.{block_weighs}
use Rattle.sgb_grammar.proofs.check.weigh.Goals as goal

pub pieces-init : goal.pieces-init
pieces-init c = (refl, c.requires)

pub pieces-preserved : goal.pieces-preserved
pieces-preserved c =
    let split = c.in-Some.ensures.cases in (
      c.pieces.invariant.0
          ∙ block_weighs c.pieces.value c.weigh_block-value.result (2 ^ 30 - 83) c.pieces.rest.now _ c.in-Some.behind.now 32 split.0 split.1 c.weigh_block-value.ensures,
      mod-lt c.weigh_block-value.result (omega arith),
    )

pub returns-clause-value : goal.returns-clause-value
returns-clause-value c = ap (λ k. k % (2 ^ 30 - 83)) c.weigh_block.ensures ∙ sym c.pieces.invariant.0
