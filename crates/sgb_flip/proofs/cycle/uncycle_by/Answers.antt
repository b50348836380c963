use Rattle.std.proofs.Common.{◌≡◌, ◌∙◌, List, ℕ, ap₂, sym, subst, ◌*◌, arith}
use Rattle.std.specs.Simd.Lanes.{chunk}
use Rattle.sgb_flip.specs.Generator.{AreSmall}
use Rattle.sgb_flip.specs.Private.Halves.{whole}
use Rattle.sgb_flip.specs.Sequence.{terms_after}
use Rattle.sgb_flip.proofs.Batches.{batches_before}
use Rattle.sgb_flip.proofs.Halves.{AreHalves-chunks, AreSmall-whole, length-whole, whole-chunks, whole-stored}
use Rattle.sgb_flip.proofs.Terms.{terms_after-none}
use Rattle.sgb_flip.proofs.cycle.uncycle_by.Goals as goal

pub loop-turn-init : goal.loop-turn-init
loop-turn-init c =
    let ws : List ℕ = c.args.words.now in
    record {
      halves = AreHalves-chunks ws c.requires.count;
      batch = terms_after-none (whole (chunk 0 32 ws) (chunk 23 32 ws)) (length-whole (chunk 0 32 ws) (chunk 23 32 ws)) ∙ whole-chunks ws c.requires.count c.requires.small;
    }

pub loop-turn-preserved : goal.loop-turn-preserved
loop-turn-preserved c = record {
  halves = c.restored.ensures.halves;
  batch = batches_before c.args.words.now (whole c.loop-turn.low c.loop-turn.high) (whole c.restored.result.0 c.restored.result.1) c.loop-turn._turn c.loop-turn.invariant.batch c.restored.ensures.batch;
}

pub returns-clause-batch : goal.returns-clause-batch
returns-clause-batch c =
    let all : c.args.batches ≡ c.loop-turn._turn = omega arith in
    ap₂ (λ ws n. terms_after ws (55 * n)) (whole-stored c.args.words.now c.loop-turn.low c.loop-turn.high c.requires.count c.loop-turn.invariant.halves) all
    ∙ c.loop-turn.invariant.batch

pub returns-clause-small : goal.returns-clause-small
returns-clause-small c =
    subst AreSmall (sym (whole-stored c.args.words.now c.loop-turn.low c.loop-turn.high c.requires.count c.loop-turn.invariant.halves)) (AreSmall-whole c.loop-turn.low c.loop-turn.high)
