use Rattle.std.proofs.Common.{◌*◌, Err, refl, ap₂, ◌∙◌, arith}
use Rattle.sgb_graph.specs.declared.refusal.Refusal.TheVariants.{TooLarge}
use Rattle.sgb_plan.proofs.Plans.{many_vertices}
use Rattle.sgb_plan.proofs.PlanRefusals.{may_allocate, planned, refused}
use Rattle.sgb_combine.specs.Product.{product_plan, refusal_of_product}
use Rattle.sgb_combine.proofs.PairNames.{count_pairs}
use Rattle.sgb_combine.proofs.pairs.product.Goals as goal

pub returns-in_err-check_product-clause-made : goal.returns-in_err-check_product-clause-made
returns-in_err-check_product-clause-made c =
    let g = c.args.first.now in
    let h = c.args.second.now in
    refused (refusal_of_product g h c.args.spec.now) (product_plan g h c.args.spec.now) c.from_residual.result c.from_residual.ensures.1 c.in_err-check_product.ensures.err

pub returns-then-from-gt65535-clause-made : goal.returns-then-from-gt65535-clause-made
returns-then-from-gt65535-clause-made c =
    let g = c.args.first.now in
    let h = c.args.second.now in
    let plan = product_plan g h c.args.spec.now in
    planned (refusal_of_product g h c.args.spec.now) plan (Err TooLarge) c.in_ok-check_product.ensures.ok
    (many_vertices plan refl (omega (arith, count_pairs g h, ap₂ (λ m n. m * n) (c.from.ensures ∙ c.n.ensures.value) (c.from-2.ensures ∙ c.n-2.ensures.value), c.if-from-gt65535.true)))

pub returns-clause-room : goal.returns-clause-room
returns-clause-room c = λ is.
    let g = c.args.first.now in
    let h = c.args.second.now in
    may_allocate (refusal_of_product g h c.args.spec.now) (product_plan g h c.args.spec.now) c.in_ok-check_product.ensures.ok
    (omega (arith, count_pairs g h, ap₂ (λ m n. m * n) (c.from.ensures ∙ c.n.ensures.value) (c.from-2.ensures ∙ c.n-2.ensures.value), c.if-from-gt65535.false))
