use Rattle.std.proofs.Common.{false, arith}
use Rattle.std.proofs.lemmas.Bool.{ltb-true}
use Rattle.sgb_make.specs.declared.side.Side.{Side}
use Rattle.sgb_make.specs.Private.Still.{IsStillAt}
use Rattle.sgb_make.proofs.SizeMultiples.{still_at, positive_at}
use borrow.Author.Count.{below_more}
use Rattle.sgb_make.proofs.vector.are_still.Goals as goal

pub loop-k-init : goal.loop-k-init
loop-k-init c = λ j below. absurd (omega arith)

pub is_still-requires : goal.is_still-requires
is_still-requires c = positive_at c.args.sides.now c.loop-k.k (record { size = 0; wraps = false }) (omega arith) c.requires.small

pub loop-k-preserved : goal.loop-k-preserved
loop-k-preserved c =
    let e : Side = record { size = 0; wraps = false } in
    below_more (λ j. IsStillAt c.args.sides.now c.args.parts.now c.args.at j) c.loop-k.k c.loop-k.invariant
    (still_at c.args.sides.now c.args.parts.now c.args.at c.loop-k.k e _ (omega arith) (ltb-true c.loop-k.k c.args.at) (c.is_still.ensures c.if-not-is_still.false))

pub returns : goal.returns
returns c = λ yes_so k below. c.loop-k.invariant k (omega arith)
