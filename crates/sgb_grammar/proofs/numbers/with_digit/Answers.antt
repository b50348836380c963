use Rattle.std.proofs.Common.{arith}
use Rattle.sgb_grammar.proofs.Naturals.{few_digits}
use Rattle.sgb_grammar.proofs.numbers.with_digit.Goals as goal

pub overflow_mul-result : goal.overflow_mul-result
overflow_mul-result c =
    let fits = few_digits c.args.value c.args.count c.args.digit c.requires.value c.if-count-lt-FITTING.true c.requires.digit in
    omega (arith, fits)

pub overflow_add-result : goal.overflow_add-result
overflow_add-result c =
    let fits = few_digits c.args.value c.args.count c.args.digit c.requires.value c.if-count-lt-FITTING.true c.requires.digit in
    omega (arith, fits)

pub returns-then-count-lt-FITTING-clause-value : goal.returns-then-count-lt-FITTING-clause-value
returns-then-count-lt-FITTING-clause-value c =
    let fits = few_digits c.args.value c.args.count c.args.digit c.requires.value c.if-count-lt-FITTING.true c.requires.digit in
    omega (arith, fits)
