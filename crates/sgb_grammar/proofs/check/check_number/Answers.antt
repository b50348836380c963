use Rattle.std.proofs.Common.{◌+◌, ◌-◌, ◌*◌, ◌%◌, ◌^◌, length, sym, ap, ◌∙◌, arith}
use Rattle.std.proofs.lemmas.Bool.{eqb-true}
use Rattle.sgb_grammar.specs.Check.{covered, weighed}
use Rattle.sgb_grammar.proofs.LineWeights.{covered_nothing, line_weighs, nothing_weighs, check_start, nil_from_length}
use Rattle.sgb_grammar.proofs.check.check_number.Goals as goal

pub lines-init : goal.lines-init
lines-init c = (check_start c.args.body.now, omega arith)

pub lines-preserved : goal.lines-preserved
lines-preserved c =
    let p = 2 ^ 30 - 83 in
    let s = c.lines.sum in
    let lines = c.split_counted.result.0.now in
    let rest = c.split_counted.result.1.now in (
      c.lines.invariant.0
          ∙ ap (λ xs. (s * 2 ^ length xs + weighed xs) % p) c.split_counted.ensures.lines
          ∙ line_weighs s p lines (covered rest)
          ∙ ap (λ k. (k * 2 ^ length (covered rest) + weighed (covered rest)) % p) (sym c.weigh-sum.ensures.value),
      c.weigh-sum.ensures.small,
    )

pub returns-clause-value : goal.returns-clause-value
returns-clause-value c =
    let s = c.lines.sum in
    let rest = c.lines.rest.now in
    let empty = nil_from_length rest (eqb-true (length rest) 0 (sym c.is_empty.ensures ∙ c.lines-test.false)) in
    sym (c.lines.invariant.0
    ∙ ap (λ xs. (s * 2 ^ length xs + weighed xs) % (2 ^ 30 - 83)) (covered_nothing rest empty)
    ∙ nothing_weighs s (2 ^ 30 - 83) c.lines.invariant.1)
