use Rattle.std.proofs.Common.{◌-◌, get_or, arith}
use Rattle.sgb_script.proofs.Digits.{value_more, digits_more, small_more, below, all_read}
use Rattle.sgb_script.proofs.numbers.short_natural.Goals as goal

pub overflow_mul-value : goal.overflow_mul-value
overflow_mul-value c =
    let small = below c.loop-digit.value c.loop-digit.digit-index 16 c.loop-digit.invariant.small (omega arith) in
    omega arith

pub overflow_add-value : goal.overflow_add-value
overflow_add-value c =
    let small = below c.loop-digit.value c.loop-digit.digit-index 16 c.loop-digit.invariant.small (omega arith) in
    let range = c.if-not-is_ascii_digit.ensures.cases in
    omega arith

pub loop-digit-preserved : goal.loop-digit-preserved
loop-digit-preserved c =
    let digits = c.args.digits.now in
    let i = c.loop-digit.digit-index in
    let range = c.if-not-is_ascii_digit.ensures.cases in
    rw c.from.ensures record {
      value = value_more c.loop-digit.value i digits c.loop-digit-test.true range c.loop-digit.invariant.value;
      digits = digits_more i digits c.loop-digit-test.true c.if-not-is_ascii_digit.ensures.value c.loop-digit.invariant.digits;
      small = small_more c.loop-digit.value i (get_or digits i 0 - 48) c.loop-digit.invariant.small (omega arith);
    }

pub returns : goal.returns
returns c = record {
  value = all_read c.loop-digit.value c.loop-digit.digit-index c.args.digits.now c.loop-digit-test.false (rw c.is_empty.ensures at c.if-is_empty.false) c.loop-digit.invariant.value c.loop-digit.invariant.digits;
  small = below c.loop-digit.value c.loop-digit.digit-index 17 c.loop-digit.invariant.small (omega arith);
}
