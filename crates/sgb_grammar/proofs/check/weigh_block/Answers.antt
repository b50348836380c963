use Rattle.std.proofs.Common.{◌+◌, ◌*◌, ◌^◌, length, ap, ◌∙◌, arith}
use Rattle.sgb_grammar.proofs.LineWeights.{sum_fits, sum_moved}
use Rattle.sgb_grammar.proofs.check.weigh_block.Goals as goal

pub overflow_add-result : goal.overflow_add-result
overflow_add-result c =
    let len = length c.args.block.now in
    let moved = sum_moved c.args.sum len c.requires.sum c.requires.block in
    let small = sum_fits c.args.sum len c.requires.sum c.requires.block in
    omega (arith, moved, small, c.weigh_alone.ensures.small)

pub returns : goal.returns
returns c =
    let moved = sum_moved c.args.sum (length c.args.block.now) c.requires.sum c.requires.block in
    ap (λ k. k + c.weigh_alone.result) moved ∙ ap (λ k. c.args.sum * 2 ^ length c.args.block.now + k) c.weigh_alone.ensures.value
