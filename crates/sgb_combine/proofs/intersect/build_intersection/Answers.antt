use Rattle.std.proofs.Common.{[], ◌∷◌, codes, Ok, ap₂, subst, ◌∙◌}
use Rattle.sgb_plan.specs.Id.{id_of_two, flag_text}
use Rattle.sgb_plan.specs.Plan.{IsMade}
use Rattle.sgb_combine.specs.Intersection.{intersection_plan}
use Rattle.sgb_combine.proofs.intersect.build_intersection.Goals as goal

pub returns : goal.returns
returns c =
    let directed = c.args.directed in
    let id = c.in_ok-id.ensures.value ∙ ap₂ (λ i j. id_of_two (codes "intersection") i j (codes "0" ∷ flag_text directed ∷ [])) c.id.ensures.value c.id-2.ensures.value in
    subst (λ i. IsMade (Ok (record (intersection_plan c.args.first.now c.args.second.now directed) { id = i })) c.combine.result) id c.combine.ensures
