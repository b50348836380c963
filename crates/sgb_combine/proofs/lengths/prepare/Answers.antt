use Rattle.std.proofs.Common.{◌≡◌, ◌∙◌, Err, Some, ap, sym}
use Rattle.std.proofs.lemmas.Result.{err_from_is_err_and}
use Rattle.sgb_graph.specs.declared.refusal.Refusal.TheVariants.{NoRoom}
use Rattle.sgb_combine.proofs.LengthRefusals.{judge_room}
use Rattle.sgb_combine.proofs.lengths.prepare.Goals as goal

pub returns-in_err-range-clause-room : goal.returns-in_err-range-clause-room
returns-in_err-range-clause-room c = λ is.
    let p = err_from_is_err_and c.from_residual.result c.from_residual.ensures.1 in
    let room = sym (p.1 ∙ ap (λ e. Err e) p.2) ∙ is in
    let same : c.in_err-range.field-0.0 ≡ NoRoom = cc in
    absurd (judge_room c.args.spec.now c.args.graph.now (c.in_err-range.ensures.err ∙ ap (λ e. Some e) same))
