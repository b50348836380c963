use Rattle.std.proofs.Common.{take, Some, ap, sym, ◌∙◌}
use Rattle.std.specs.Str.Parse.{digits_value}
use Rattle.sgb_grammar.proofs.Naturals.{no_digits, some_digits}
use Rattle.sgb_grammar.proofs.numbers.magnitude.Goals as goal

pub returns-then-count-eq0 : goal.returns-then-count-eq0
returns-then-count-eq0 c = no_digits c.args.bytes.now c.digits_of-count.result.0 c.digits_of-count.ensures.count c.if-count-eq0.true

pub returns : goal.returns
returns c =
    let bs = c.args.bytes.now in
    let k = c.digits_of-count.result.0 in
    let n = digits_value 10 (take k bs) in
    let read = some_digits bs k c.digits_of-count.ensures.count c.if-count-eq0.false in
    (n, read ∙ ap (λ rest. Some (n, rest)) (sym c.split_at.ensures.back), c.digits_of-count.ensures.value)
