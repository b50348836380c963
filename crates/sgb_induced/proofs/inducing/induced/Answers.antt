use Rattle.std.proofs.Common.{length, Err, refl, ap, ◌∙◌, arith}
use Rattle.sgb_graph.specs.declared.refusal.Refusal.TheVariants.{BadSpecs}
use Rattle.sgb_plan.proofs.PlanRefusals.{never_answered, planned, refused}
use Rattle.sgb_induced.specs.Image.{have_names}
use Rattle.sgb_induced.specs.Induced.{induced_plan, refusal_of_induced}
use Rattle.sgb_induced.proofs.Roles.{names_kept}
use Rattle.sgb_induced.proofs.Plans.{judged, long, no_room}
use Rattle.sgb_induced.proofs.inducing.induced.Goals as goal

pub returns-then-bytes-gt40-clause-made : goal.returns-then-bytes-gt40-clause-made
returns-then-bytes-gt40-clause-made c =
    refused (refusal_of_induced c.args.graph.now c.args.description.now) (induced_plan c.args.graph.now c.args.description.now c.args.spec.now) (Err BadSpecs) refl (long c.args.graph.now c.args.description.now (omega (arith, ap length c.bytes.ensures.value, c.if-bytes-gt40.true)))

pub returns-in_err-check_operand-clause-made : goal.returns-in_err-check_operand-clause-made
returns-in_err-check_operand-clause-made c =
    refused (refusal_of_induced c.args.graph.now c.args.description.now) (induced_plan c.args.graph.now c.args.description.now c.args.spec.now) c.from_residual.result c.from_residual.ensures.1 (judged c.args.graph.now c.args.description.now (omega (arith, ap length c.bytes.ensures.value, c.if-bytes-gt40.false)) c.in_err-check_operand.ensures.err refl)

pub returns-in_err-check_operand-clause-room : goal.returns-in_err-check_operand-clause-room
returns-in_err-check_operand-clause-room c = λ is.
    absurd (never_answered c.from_residual.result (no_room c.args.graph.now c.args.description.now) c.from_residual.ensures.1 (judged c.args.graph.now c.args.description.now (omega (arith, ap length c.bytes.ensures.value, c.if-bytes-gt40.false)) c.in_err-check_operand.ensures.err refl) is)

pub returns-in_err-check_fates-clause-made : goal.returns-in_err-check_fates-clause-made
returns-in_err-check_fates-clause-made c =
    refused (refusal_of_induced c.args.graph.now c.args.description.now) (induced_plan c.args.graph.now c.args.description.now c.args.spec.now) c.from_residual-in_err-check_fates.result c.from_residual-in_err-check_fates.ensures.1 (judged c.args.graph.now c.args.description.now (omega (arith, ap length c.bytes.ensures.value, c.if-bytes-gt40.false)) c.in_ok-check_operand.ensures.ok c.in_err-check_fates.ensures.err)

pub returns-in_err-check_fates-clause-room : goal.returns-in_err-check_fates-clause-room
returns-in_err-check_fates-clause-room c = λ is.
    absurd (never_answered c.from_residual-in_err-check_fates.result (no_room c.args.graph.now c.args.description.now) c.from_residual-in_err-check_fates.ensures.1 (judged c.args.graph.now c.args.description.now (omega (arith, ap length c.bytes.ensures.value, c.if-bytes-gt40.false)) c.in_ok-check_operand.ensures.ok c.in_err-check_fates.ensures.err) is)

pub returns-in_err-fates-clause-room : goal.returns-in_err-fates-clause-room
returns-in_err-fates-clause-room c = λ is.
    judged c.args.graph.now c.args.description.now (omega (arith, ap length c.bytes.ensures.value, c.if-bytes-gt40.false)) c.in_ok-check_operand.ensures.ok c.in_ok-check_fates.ensures.ok

pub build_induced-requires-clause-names : goal.build_induced-requires-clause-names
build_induced-requires-clause-names c =
    ap (have_names c.args.graph.now) (c.deref.ensures.value ∙ c.in_ok-fates.ensures) ∙ names_kept c.args.graph.now c.in_ok-check_fates.ensures.ok

pub returns-clause-made : goal.returns-clause-made
returns-clause-made c =
    planned (refusal_of_induced c.args.graph.now c.args.description.now) (induced_plan c.args.graph.now c.args.description.now c.args.spec.now) c.build_induced.result (judged c.args.graph.now c.args.description.now (omega (arith, ap length c.bytes.ensures.value, c.if-bytes-gt40.false)) c.in_ok-check_operand.ensures.ok c.in_ok-check_fates.ensures.ok) c.build_induced.ensures

pub returns-clause-room : goal.returns-clause-room
returns-clause-room c = λ is.
    judged c.args.graph.now c.args.description.now (omega (arith, ap length c.bytes.ensures.value, c.if-bytes-gt40.false)) c.in_ok-check_operand.ensures.ok c.in_ok-check_fates.ensures.ok
