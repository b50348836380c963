use Rattle.std.proofs.Common.{◌≡◌, map, sym, ap, subst, ◌∙◌, arith}
use Rattle.std.specs.List.{range_with_len}
use Rattle.std.proofs.lemmas.Result.{err_from_is_err_and}
use Rattle.sgb_graph.specs.Builder.{grown}
use Rattle.sgb_graph.specs.Graph.{IsGraph, n_of}
use Rattle.sgb_plan.proofs.Plans.{begun, made, refused_insertions}
use Rattle.sgb_graph.proofs.InsertionRuns.{RefusesInsertions}
use Rattle.sgb_induced.specs.Fate.{fates_of}
use Rattle.sgb_induced.specs.Induced.{induced_plan}
use Rattle.sgb_induced.specs.Private.Run.{image_of, runs_of}
use Rattle.sgb_induced.proofs.CopyNames.{long_enough}
use Rattle.sgb_induced.proofs.Plans.{begins, few_all, inserted_all, known_all, n-named_all, named_all, refused_images, refused_named, too_many_all, within_all}
use Rattle.sgb_induced.proofs.inducing.build_induced.Goals as goal

pub place_images-requires : goal.place_images-requires
place_images-requires c = omega (arith, long_enough c.args.graph.now c.requires.fates, c.n.ensures.value, c.n.ensures.limit)

pub returns-in_err-images : goal.returns-in_err-images
returns-in_err-images c =
    let p = err_from_is_err_and c.from_residual.result c.from_residual.ensures.1 in
    rw (p.1, p.2) (refused_images c.args.graph.now c.args.description.now c.args.spec.now (too_many_all c.args.graph.now c.requires.fates c.in_err-images.ensures.err))

pub name_vertices-requires-clause-images : goal.name_vertices-requires-clause-images
name_vertices-requires-clause-images c = c.deref.ensures.value ∙ known_all c.args.graph.now c.requires.fates c.in_ok-images.ensures.value

pub returns-in_err-name_vertices : goal.returns-in_err-name_vertices
unfolding induced_plan
returns-in_err-name_vertices c =
    let p = err_from_is_err_and c.from_residual-in_err-name_vertices.result c.from_residual-in_err-name_vertices.ensures.1 in
    let begun_so : c.new-builder.result ≡ begun (induced_plan c.args.graph.now c.args.description.now c.args.spec.now) = begins c.args.graph.now c.args.description.now c.args.spec.now c.new-builder.ensures c.in_ok-id.ensures.value c.none.ensures.value in
    rw (p.1, p.2) (refused_named c.args.graph.now c.args.description.now c.args.spec.now begun_so c.in_err-name_vertices.ensures)

pub insert_runs-requires-clause-within : goal.insert_runs-requires-clause-within
unfolding induced_plan
insert_runs-requires-clause-within c =
    let begun_so : c.new-builder.result ≡ begun (induced_plan c.args.graph.now c.args.description.now c.args.spec.now) = begins c.args.graph.now c.args.description.now c.args.spec.now c.new-builder.ensures c.in_ok-id.ensures.value c.none.ensures.value in
    within_all c.args.graph.now (c.deref-3.ensures.value ∙ known_all c.args.graph.now c.requires.fates c.in_ok-images.ensures.value) (n-named_all c.args.graph.now c.args.description.now c.args.spec.now begun_so (c.reserve.ensures.same ∙ c.in_ok-name_vertices.ensures))

pub insert_runs-requires-clause-few : goal.insert_runs-requires-clause-few
unfolding induced_plan
insert_runs-requires-clause-few c =
    let begun_so : c.new-builder.result ≡ begun (induced_plan c.args.graph.now c.args.description.now c.args.spec.now) = begins c.args.graph.now c.args.description.now c.args.spec.now c.new-builder.ensures c.in_ok-id.ensures.value c.none.ensures.value in
    omega (arith, n-named_all c.args.graph.now c.args.description.now c.args.spec.now begun_so (c.reserve.ensures.same ∙ c.in_ok-name_vertices.ensures), few_all c.args.graph.now c.requires.fates c.in_ok-images.ensures.few)

pub returns-in_err-insert_runs : goal.returns-in_err-insert_runs
unfolding induced_plan
returns-in_err-insert_runs c =
    let p = err_from_is_err_and c.from_residual-in_err-insert_runs.result c.from_residual-in_err-insert_runs.ensures.1 in
    let begun_so : c.new-builder.result ≡ begun (induced_plan c.args.graph.now c.args.description.now c.args.spec.now) = begins c.args.graph.now c.args.description.now c.args.spec.now c.new-builder.ensures c.in_ok-id.ensures.value c.none.ensures.value in
    let known : c.deref-3.result.now ≡ map (image_of (fates_of c.args.graph.now)) (range_with_len 0 (n_of c.args.graph.now)) = c.deref-3.ensures.value ∙ known_all c.args.graph.now c.requires.fates c.in_ok-images.ensures.value in
    let same = inserted_all c.args.graph.now c.args.description.now c.args.spec.now known (c.deref-4.ensures.value ∙ (c.in_ok-runs.ensures ∙ ap (runs_of c.args.spec.now.multi c.args.spec.now.directed c.args.graph.now) (c.deref-2.ensures.value ∙ sym c.deref-3.ensures.value))) in
    rw (p.1, p.2) (refused_insertions (induced_plan c.args.graph.now c.args.description.now c.args.spec.now) (named_all c.args.graph.now c.args.description.now c.args.spec.now begun_so (c.reserve.ensures.same ∙ c.in_ok-name_vertices.ensures)) (subst (λ es. RefusesInsertions c.reserve.new.self es c.in_err-insert_runs.field-0.0) same c.in_err-insert_runs.ensures))

pub returns : goal.returns
unfolding induced_plan
returns c =
    let begun_so : c.new-builder.result ≡ begun (induced_plan c.args.graph.now c.args.description.now c.args.spec.now) = begins c.args.graph.now c.args.description.now c.args.spec.now c.new-builder.ensures c.in_ok-id.ensures.value c.none.ensures.value in
    let known : c.deref-3.result.now ≡ map (image_of (fates_of c.args.graph.now)) (range_with_len 0 (n_of c.args.graph.now)) = c.deref-3.ensures.value ∙ known_all c.args.graph.now c.requires.fates c.in_ok-images.ensures.value in
    let same = inserted_all c.args.graph.now c.args.description.now c.args.spec.now known (c.deref-4.ensures.value ∙ (c.in_ok-runs.ensures ∙ ap (runs_of c.args.spec.now.multi c.args.spec.now.directed c.args.graph.now) (c.deref-2.ensures.value ∙ sym c.deref-3.ensures.value))) in
    rw c.finish.ensures.value (made (induced_plan c.args.graph.now c.args.description.now c.args.spec.now) (named_all c.args.graph.now c.args.description.now c.args.spec.now begun_so (c.reserve.ensures.same ∙ c.in_ok-name_vertices.ensures)) (c.in_ok-insert_runs.ensures ∙ ap (grown c.reserve.new.self) same) (subst IsGraph c.finish.ensures.value c.finish.ensures.sound))
