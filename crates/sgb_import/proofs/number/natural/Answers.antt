use Rattle.std.proofs.Common.{◌-◌, ◌^◌, min, ap, sym, arith}
use Rattle.std.specs.Option.{option_map}
use Rattle.sgb_import.proofs.NumberWords.{value_more, digits_more, all_read, not_digits, natural_of-empty}
use Rattle.sgb_import.proofs.number.natural.Goals as goal

pub returns-then-is_empty : goal.returns-then-is_empty
returns-then-is_empty c = ap (option_map (λ n. min n (2 ^ 64 - 1))) (sym (natural_of-empty c.args.word.now (rw c.is_empty.ensures at c.if-is_empty.true)))

pub returns-then-not-is_ascii_digit : goal.returns-then-not-is_ascii_digit
returns-then-not-is_ascii_digit c =
    ap (option_map (λ n. min n (2 ^ 64 - 1))) (sym (not_digits c.loop-digit.digit-index c.args.word.now c.loop-digit-test.true c.if-not-is_ascii_digit.ensures.value c.loop-digit.invariant.digits))

pub loop-digit-preserved : goal.loop-digit-preserved
loop-digit-preserved c =
    let word = c.args.word.now in
    let i = c.loop-digit.digit-index in
    let range = c.if-not-is_ascii_digit.ensures.cases in
    rw (c.saturating_add-value.ensures, c.saturating_mul.ensures, c.from.ensures) record {
      value = value_more c.loop-digit.value i (2 ^ 64 - 1) word c.loop-digit-test.true range c.loop-digit.invariant.value;
      fits = omega arith;
      digits = digits_more i word c.loop-digit-test.true c.if-not-is_ascii_digit.ensures.value c.loop-digit.invariant.digits;
    }

pub returns : goal.returns
returns c =
    all_read c.loop-digit.value c.loop-digit.digit-index (2 ^ 64 - 1) c.args.word.now c.loop-digit-test.false c.loop-digit.invariant.fits (rw c.is_empty.ensures at c.if-is_empty.false) c.loop-digit.invariant.value c.loop-digit.invariant.digits
