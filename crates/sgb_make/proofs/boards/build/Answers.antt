use Rattle.std.proofs.Common.{map, refl, ap, subst, ◌∙◌}
use Rattle.std.proofs.lemmas.Result.{err_from_is_err_and}
use Rattle.sgb_graph.specs.Graph.{IsGraph}
use Rattle.sgb_plan.specs.Plan.{Plan, with_named}
use Rattle.sgb_plan.proofs.Plans.{RefusesNames, made, refused_names, refused_insertions}
use Rattle.sgb_simplex.specs.Points.{point_vertex}
use Rattle.sgb_make.specs.Ride.{positions}
use Rattle.sgb_make.specs.Private.Ridden.{ridden_plan}
use Rattle.sgb_make.proofs.BoardPlans.{begins, named_n}
use Rattle.sgb_make.proofs.boards.build.Goals as goal

pub returns-in_err-name_positions : goal.returns-in_err-name_positions
returns-in_err-name_positions c =
    let p = err_from_is_err_and c.from_residual.result c.from_residual.ensures.1 in
    let plan : Plan = ridden_plan c.args.id c.args.course.now.sides.items c.args.course.now.rides c.args.course.now.most c.args.directed in
    let begun_so = begins plan c.point_types.result c.new-builder.result c.new-builder.ensures c.point_types.ensures in
    rw (p.1, p.2)
    (refused_names plan (subst (λ b. RefusesNames b plan.vertices c.in_err-name_positions.field-0.0) begun_so
    (subst (λ ss. RefusesNames c.new-builder.result (map point_vertex (positions ss)) c.in_err-name_positions.field-0.0) c.deref.ensures.value c.in_err-name_positions.ensures)))

pub insert_vectors-requires-clause-count : goal.insert_vectors-requires-clause-count
insert_vectors-requires-clause-count c =
    let plan : Plan = ridden_plan c.args.id c.args.course.now.sides.items c.args.course.now.rides c.args.course.now.most c.args.directed in
    let begun_so = begins plan c.point_types.result c.new-builder.result c.new-builder.ensures c.point_types.ensures in
    let named = c.in_ok-name_positions.ensures ∙ ap (λ ss. with_named c.new-builder.result (map point_vertex (positions ss))) c.deref.ensures.value in
    named_n plan c.args.course.now.sides.items c.new-builder.result c.name_positions.new.builder begun_so named refl

pub returns-in_err-insert_vectors : goal.returns-in_err-insert_vectors
returns-in_err-insert_vectors c =
    let p = err_from_is_err_and c.from_residual-in_err-insert_vectors.result c.from_residual-in_err-insert_vectors.ensures.1 in
    let plan : Plan = ridden_plan c.args.id c.args.course.now.sides.items c.args.course.now.rides c.args.course.now.most c.args.directed in
    let begun_so = begins plan c.point_types.result c.new-builder.result c.new-builder.ensures c.point_types.ensures in
    let named = c.in_ok-name_positions.ensures ∙ ap (λ ss. with_named c.new-builder.result (map point_vertex (positions ss))) c.deref.ensures.value in
    rw (p.1, p.2)
    (refused_insertions plan (named ∙ ap (λ b. with_named b plan.vertices) begun_so) c.in_err-insert_vectors.ensures)

pub returns : goal.returns
returns c =
    let plan : Plan = ridden_plan c.args.id c.args.course.now.sides.items c.args.course.now.rides c.args.course.now.most c.args.directed in
    let begun_so = begins plan c.point_types.result c.new-builder.result c.new-builder.ensures c.point_types.ensures in
    let named = c.in_ok-name_positions.ensures ∙ ap (λ ss. with_named c.new-builder.result (map point_vertex (positions ss))) c.deref.ensures.value in
    let whole = made plan (named ∙ ap (λ b. with_named b plan.vertices) begun_so) c.in_ok-insert_vectors.ensures (subst IsGraph c.finish.ensures.value c.finish.ensures.sound) in
    rw (c.finish.ensures.value) whole
