use Rattle.std.proofs.Common.{◌≡◌, ap₂, sym, subst, None, IsErrOf}
use Rattle.sgb_combine.specs.Intersection.{plan_of_intersection}
use Rattle.sgb_graph.specs.declared.refusal.Refusal.TheVariants.{NoRoom}
use Rattle.sgb_induced.specs.Induced.{plan_of_induced, refusal_of_induced}
use Rattle.sgb_plan.specs.Plan.{IsMade, MayAllocate}
use Rattle.sgb_session.specs.Make.{recipe_of}
use Rattle.sgb_session.specs.Private.Making.{Follows}
use Rattle.sgb_session.proofs.making.make_still.Goals as goal

pub returns-in-Intersection : goal.returns-in-Intersection
returns-in-Intersection c =
    let r = c.intersection.result in
    subst (λ k. Follows c.args.table.now (recipe_of k) r) (sym c.in-Intersection.is)
    (subst (λ plan. IsMade plan r × (IsErrOf r NoRoom → MayAllocate plan))
    (ap₂ (λ g h. plan_of_intersection g h c.in-Intersection.directed) c.named-in-Intersection.ensures c.named-in-Intersection-2.ensures)
    (c.intersection.ensures.made, c.intersection.ensures.room))

pub returns-in-Induced : goal.returns-in-Induced
returns-in-Induced c =
    let r = c.induced.result in
    let description = c.in-Induced.description in
    subst (λ k. Follows c.args.table.now (recipe_of k) r) (sym c.in-Induced.is)
    (subst (λ g. IsMade (plan_of_induced g description c.in-Induced.spec) r × (IsErrOf r NoRoom → refusal_of_induced g description ≡ None))
    c.named-in-Induced.ensures (c.induced.ensures.made, c.induced.ensures.room))
