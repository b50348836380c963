use Rattle.std.proofs.Common.{[], ◌∷◌, codes, Ok, ap₂, subst, ◌∙◌}
use Rattle.sgb_plan.specs.Id.{id_of_two, flag_text}
use Rattle.sgb_plan.specs.Plan.{IsMade}
use Rattle.sgb_combine.specs.Gunion.{gunion_plan}
use Rattle.sgb_combine.proofs.unite.build_union.Goals as goal

pub returns : goal.returns
returns c =
    let spec = c.args.spec in
    let id = c.in_ok-id.ensures.value ∙ ap₂ (λ i j. id_of_two (codes "gunion") i j (flag_text spec.multi ∷ flag_text spec.directed ∷ [])) c.id.ensures.value c.id-2.ensures.value in
    subst (λ i. IsMade (Ok (record (gunion_plan c.args.first.now c.args.second.now spec) { id = i })) c.combine.result) id c.combine.ensures
