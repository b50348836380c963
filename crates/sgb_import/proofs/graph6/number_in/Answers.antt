use Rattle.std.proofs.Common.{ℕ, refl, lit<, ap, sym, ◌∙◌, ◌<◌, ◌^◌, ◌*◌, ◌+◌, ◌-◌, get_or, arith}
use Rattle.std.proofs.lemmas.Grind.{pow_more}
use Rattle.sgb_import.specs.Graph6.{number_in}
use Rattle.sgb_import.proofs.Graph6Sizes.{digits_below, digit_fits, number_in-more, six_bits-at}
use Rattle.sgb_import.proofs.graph6.number_in.Goals as goal

pub loop-digit-init : goal.loop-digit-init
unfolding number_in
loop-digit-init c = (refl, lit< tt)

pub overflow_mul-number : goal.overflow_mul-number
overflow_mul-number c = omega (arith, digits_below c.loop-digit.digit-index c.loop-digit.number (omega arith) c.loop-digit.invariant.1)

pub overflow_add-number : goal.overflow_add-number
overflow_add-number c = omega (arith, digits_below c.loop-digit.digit-index c.loop-digit.number (omega arith) c.loop-digit.invariant.1, c.type_inv.digits c.loop-digit.digit-index)

pub loop-digit-preserved : goal.loop-digit-preserved
loop-digit-preserved c =
    let i = c.loop-digit.digit-index in
    let digit = get_or c.args.digits.now i 0 - 63 in
    let small : digit < 64 = omega (arith, six_bits-at c.args.digits.now i c.requires.digits (omega arith)) in (
      ap (λ (n : ℕ). 64 * n + digit) c.loop-digit.invariant.0 ∙ sym (number_in-more c.args.digits.now i (omega arith)),
      omega (arith, pow_more 64 i, digit_fits c.loop-digit.number digit (64 ^ i) c.loop-digit.invariant.1 small),
    )
