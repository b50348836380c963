use Rattle.std.proofs.Common.{rules, None, Some, ap₂, sym, ◌∙◌, FitsSigned, w64}
use Rattle.std.proofs.lemmas.Int.{to_z-of_z}
use Rattle.std.proofs.lemmas.Result.{err_from_is_err_and}
use Rattle.sgb_plan.specs.Length.{refusal_of_range}
use Rattle.sgb_combine.proofs.LengthRefusals.{judge_range, judge_arcs}
use Rattle.sgb_combine.proofs.lengths.judge.Goals as goal

pub returns-in_err-range-clause-err : goal.returns-in_err-range-clause-err
returns-in_err-range-clause-err c =
    let s = c.args.spec.now in
    let low : FitsSigned w64 s.min = search rules in
    let high : FitsSigned w64 s.max = search rules in
    let p = err_from_is_err_and c.from_residual.result c.from_residual.ensures.1 in
    rw (p.1, p.2) (judge_range s c.args.graph.now c.in_err-range.field-0.0
    (ap₂ refusal_of_range (sym (to_z-of_z w64 s.min low)) (sym (to_z-of_z w64 s.max high)) ∙ c.in_err-range.ensures.err))

pub returns-in_err-check_arcs-clause-err : goal.returns-in_err-check_arcs-clause-err
returns-in_err-check_arcs-clause-err c =
    let s = c.args.spec.now in
    let low : FitsSigned w64 s.min = search rules in
    let high : FitsSigned w64 s.max = search rules in
    let p = err_from_is_err_and c.from_residual-in_err-check_arcs.result c.from_residual-in_err-check_arcs.ensures.1 in
    rw (p.1, p.2) (judge_arcs s c.args.graph.now (Some c.in_err-check_arcs.field-0.0)
    (ap₂ refusal_of_range (sym (to_z-of_z w64 s.min low)) (sym (to_z-of_z w64 s.max high)) ∙ c.in_ok-range.ensures.ok)
    c.in_err-check_arcs.ensures.err)

pub returns-clause-ok : goal.returns-clause-ok
returns-clause-ok c =
    let s = c.args.spec.now in
    let low : FitsSigned w64 s.min = search rules in
    let high : FitsSigned w64 s.max = search rules in
    judge_arcs s c.args.graph.now None
    (ap₂ refusal_of_range (sym (to_z-of_z w64 s.min low)) (sym (to_z-of_z w64 s.max high)) ∙ c.in_ok-range.ensures.ok)
    c.in_ok-check_arcs.ensures.ok
