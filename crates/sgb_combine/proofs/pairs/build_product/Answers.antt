use Rattle.std.proofs.Common.{Ok, refl, subst}
use Rattle.sgb_graph.specs.Graph.{IsGraph}
use Rattle.sgb_plan.proofs.Plans.{made, refused_insertions}
use Rattle.sgb_plan.proofs.PlanRefusals.{answered}
use Rattle.sgb_combine.specs.Product.{product_plan}
use Rattle.sgb_combine.proofs.Starts.{named_so, begun_refused}
use Rattle.sgb_combine.proofs.PairNames.{n_pairs}
use Rattle.sgb_combine.proofs.pairs.build_product.Goals as goal

pub returns-in_err-builder : goal.returns-in_err-builder
returns-in_err-builder c =
    answered (Ok (product_plan c.args.first.now c.args.second.now c.args.spec)) c.from_residual-in_err-builder.result c.from_residual-in_err-builder.ensures.1 (begun_refused (product_plan c.args.first.now c.args.second.now c.args.spec) c.in_ok-id.id c.in_ok-id.ensures.value refl c.in_err-builder.ensures)

pub insert_product-requires : goal.insert_product-requires
insert_product-requires c = n_pairs c.in_ok-id.id c.args.spec.directed c.args.first.now c.args.second.now c.in_ok-builder.ensures

pub returns-in_err-insert_product : goal.returns-in_err-insert_product
returns-in_err-insert_product c =
    let plan = product_plan c.args.first.now c.args.second.now c.args.spec in
    answered (Ok plan) c.from_residual-in_err-insert_product.result c.from_residual-in_err-insert_product.ensures.1 (refused_insertions plan (named_so plan c.in_ok-id.id c.in_ok-id.ensures.value refl c.in_ok-builder.ensures) c.in_err-insert_product.ensures)

pub returns : goal.returns
returns c =
    let plan = product_plan c.args.first.now c.args.second.now c.args.spec in
    rw c.finish.ensures.value (made plan (named_so plan c.in_ok-id.id c.in_ok-id.ensures.value refl c.in_ok-builder.ensures) c.in_ok-insert_product.ensures (subst IsGraph c.finish.ensures.value c.finish.ensures.sound))
