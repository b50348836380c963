use Rattle.std.proofs.Common.{ap₂, sym, ◌∙◌, FitsSigned, w64, rules}
use Rattle.std.proofs.lemmas.Int.{to_z-of_z}
use Rattle.std.proofs.lemmas.Result.{err_from_is_err_and}
use Rattle.sgb_plan.specs.Length.{refusal_of_range}
use Rattle.sgb_random.proofs.Refusals.{judge_unsound, judge_range, judge_large, judge_none, range_none}
use Rattle.sgb_random.proofs.spec.judge.Goals as goal

pub returns-then-not-is_sound-clause-err : goal.returns-then-not-is_sound-clause-err
returns-then-not-is_sound-clause-err c = judge_unsound c.args.spec (sym c.is_sound.ensures ∙ c.if-not-is_sound.true)

pub returns-in_err-range-clause-err : goal.returns-in_err-range-clause-err
returns-in_err-range-clause-err c =
    let s = c.args.spec in
    let low : FitsSigned w64 s.min = search rules in
    let high : FitsSigned w64 s.max = search rules in
    let p = err_from_is_err_and c.from_residual.result c.from_residual.ensures.1 in
    rw (p.1, p.2) (judge_range s c.in_err-range.field-0.0 (sym c.is_sound.ensures ∙ c.if-not-is_sound.false)
    (ap₂ refusal_of_range (sym (to_z-of_z w64 s.min low)) (sym (to_z-of_z w64 s.max high)) ∙ c.in_err-range.ensures.err))

pub returns-then-not-is_small-clause-err : goal.returns-then-not-is_small-clause-err
returns-then-not-is_small-clause-err c =
    let s = c.args.spec in
    let range = c.in_ok-range.range in
    let low : FitsSigned w64 s.min = search rules in
    let high : FitsSigned w64 s.max = search rules in
    judge_large s (sym c.is_sound.ensures ∙ c.if-not-is_sound.false)
    (range_none s range.min range.max (c.in_ok-range.ensures.min ∙ to_z-of_z w64 s.min low) (c.in_ok-range.ensures.max ∙ to_z-of_z w64 s.max high) range.ordered range.narrow)
    (sym c.is_small.ensures ∙ c.if-not-is_small.true)

pub returns-clause-ok : goal.returns-clause-ok
returns-clause-ok c =
    let s = c.args.spec in
    let range = c.in_ok-range.range in
    let low : FitsSigned w64 s.min = search rules in
    let high : FitsSigned w64 s.max = search rules in
    judge_none s (sym c.is_sound.ensures ∙ c.if-not-is_sound.false)
    (range_none s range.min range.max (c.in_ok-range.ensures.min ∙ to_z-of_z w64 s.min low) (c.in_ok-range.ensures.max ∙ to_z-of_z w64 s.max high) range.ordered range.narrow)
    (sym c.is_small.ensures ∙ c.if-not-is_small.false)
