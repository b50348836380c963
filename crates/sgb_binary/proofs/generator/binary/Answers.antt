use Rattle.std.proofs.Common.{◌≡◌, false, Err, refl, sym, subst, ◌∙◌}
use Rattle.sgb_graph.specs.declared.refusal.Refusal.TheVariants.{BadSpecs}
use Rattle.sgb_plan.specs.Plan.{IsMade}
use Rattle.sgb_plan.proofs.Plans.{refused_before}
use Rattle.sgb_binary.specs.declared.spec.BinarySpec.{BinarySpec}
use Rattle.sgb_binary.specs.Binary.{plan_of_binary, is_binary}
use Rattle.sgb_binary.proofs.generator.binary.Goals as goal

no_plan : (spec : BinarySpec) → is_binary spec ≡ false → plan_of_binary spec ≡ Err BadSpecs
no_plan spec is = rw is refl

pub returns-then-not-is_binary-clause-made : goal.returns-then-not-is_binary-clause-made
returns-then-not-is_binary-clause-made c =
    subst (λ plan. IsMade plan (Err BadSpecs)) (sym (no_plan c.args.spec.now (sym c.is_binary.ensures ∙ c.if-not-is_binary.true))) (refused_before BadSpecs)
