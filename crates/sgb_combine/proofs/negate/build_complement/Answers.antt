use Rattle.std.proofs.Common.{[], ◌∷◌, codes, Ok, ap, subst, ◌∙◌}
use Rattle.sgb_plan.specs.Id.{id_of_one, flag_text}
use Rattle.sgb_plan.specs.Plan.{IsMade}
use Rattle.sgb_combine.specs.Complement.{complement_plan}
use Rattle.sgb_combine.proofs.negate.build_complement.Goals as goal

pub returns : goal.returns
returns c =
    let spec = c.args.spec in
    let id = c.in_ok-id.ensures.value ∙ ap (λ i. id_of_one (codes "complement") i (flag_text spec.copy ∷ flag_text spec.loops ∷ flag_text spec.directed ∷ [])) c.id.ensures.value in
    subst (λ i. IsMade (Ok (record (complement_plan c.args.graph.now spec) { id = i })) c.combine.result) id c.combine.ensures
