use Rattle.std.proofs.Common.{◌∙◌, ◌++◌, ◌∷◌, [], ap, sym, arith, get_or, length, length-take}
use Rattle.std.proofs.lemmas.List.{take_all, take_more}
use Rattle.sgb_shell.proofs.first.copy_of.Goals as goal

pub push-requires : goal.push-requires
push-requires c = omega (arith, c.loop-byte-test.true, c.requires, ap length c.loop-byte.invariant, length-take c.loop-byte.byte-index c.args.front.now)

pub loop-byte-preserved : goal.loop-byte-preserved
loop-byte-preserved c =
    let i = c.loop-byte.byte-index in
    c.push.ensures.items ∙ ap (λ t. t ++ get_or c.args.front.now i 0 ∷ []) c.loop-byte.invariant ∙ sym (take_more c.args.front.now i 0 c.loop-byte-test.true)

pub returns : goal.returns
returns c = c.loop-byte.invariant ∙ take_all c.loop-byte.byte-index c.args.front.now c.loop-byte-test.false
