use Rattle.std.proofs.Common.{rules, sym, ap, ◌∙◌, FitsSigned, w64, arith}
use Rattle.std.proofs.lemmas.Int.{to_z-of_z}
use Rattle.sgb_combine.specs.Private.Table.{written}
use Rattle.sgb_combine.proofs.WalkLengths.{walked_start, walked_skip, walked_draw, draw_is}
use Rattle.sgb_combine.proofs.draw.draw_walk.Goals as goal

pub loop-number-init : goal.loop-number-init
loop-number-init c =
    walked_start (c.into_iter-number-iterator.ensures.into_iter_gives ∙ c.walk-number-items.ensures.value) c.unread.ensures.generator
    (rw c.into_iter-number-iterator.ensures.into_iter_gives c.walk-number-items.ensures.live)

pub loop-number-preserved-then-not-is_drawing : goal.loop-number-preserved-then-not-is_drawing
loop-number-preserved-then-not-is_drawing c =
    walked_skip c.in-Some.ensures.steps (sym c.is_drawing.ensures ∙ c.if-not-is_drawing.true) c.loop-number.invariant

pub loop-number-preserved : goal.loop-number-preserved
loop-number-preserved c =
    let d = c.draw-drawn.ensures in
    let fits : FitsSigned w64 c.draw-drawn.result.len = search rules in
    walked_draw c.in-Some.ensures.steps (sym c.is_drawing.ensures ∙ c.if-not-is_drawing.false) c.loop-number.invariant
    (draw_is c.args.directed c.args.range.now.min c.args.range.now.max c.loop-number.lengths c.loop-number.draws c.in-Some.number.0 c.loop-number.flip
    (c.write_length.ensures ∙ ap (written c.args.directed c.loop-number.lengths c.in-Some.number.0) (to_z-of_z w64 c.draw-drawn.result.len fits)) d.len d.draws d.rest)
    (let few = d.few in omega arith) d.generator
