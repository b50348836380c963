use Rattle.std.proofs.Common.{◌+◌, ◌-◌, ◌*◌, length, ap, sym, ◌∙◌, arith}
use Rattle.sgb_binary.proofs.NameCodes.{code_fits, code_end, code_grown}
use Rattle.sgb_binary.proofs.code.code_of.Goals as goal

pub loop-place-init : goal.loop-place-init
loop-place-init c = sym (code_end c.args.word.now (length c.args.word.now) (omega arith))

pub overflow_mul-code : goal.overflow_mul-code
overflow_mul-code c =
    let grown = code_grown c.args.word.now c.loop-place.place c.loop-place.code (omega arith) (omega arith) c.loop-place.invariant in
    omega (arith, grown, code_fits c.args.word.now (c.loop-place.place - 1) c.requires)

pub overflow_add-code : goal.overflow_add-code
overflow_add-code c =
    let grown = code_grown c.args.word.now c.loop-place.place c.loop-place.code (omega arith) (omega arith) c.loop-place.invariant in
    omega (arith, grown, c.leaf.ensures, code_fits c.args.word.now (c.loop-place.place - 1) c.requires)

pub loop-place-preserved : goal.loop-place-preserved
loop-place-preserved c =
    ap (λ d. 2 * c.loop-place.code + d) c.leaf.ensures
    ∙ sym (code_grown c.args.word.now c.loop-place.place c.loop-place.code (omega arith) (omega arith) c.loop-place.invariant)
