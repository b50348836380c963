use Rattle.std.proofs.Common.{length, ap, subst, ◌∙◌, arith}
use Rattle.std.proofs.lemmas.List.FromFn.{length-map-range_with_len}
use Rattle.std.proofs.lemmas.Result.{err_from_is_err_and}
use Rattle.sgb_graph.specs.Graph.{n_of}
use Rattle.sgb_plan.specs.Plan.{with_named}
use Rattle.sgb_plan.proofs.Plans.{RefusesNames}
use Rattle.sgb_induced.specs.Fate.{fates_of}
use Rattle.sgb_induced.specs.Image.{named_at}
use Rattle.sgb_induced.specs.Private.Run.{image_of}
use Rattle.sgb_induced.proofs.CopyNames.{runs_some, runs_none, runs_refused, runs_end, runs_start}
use Rattle.sgb_induced.proofs.ImagePlaces.{named_here, none_here, short_here}
use Rattle.sgb_induced.proofs.name.name_vertices.Goals as goal

pub loop-v-init : goal.loop-v-init
loop-v-init c = runs_start c.args.builder.now (named_at c.args.graph.now (fates_of c.args.graph.now)) (n_of c.args.graph.now)

pub bounds-images-v : goal.bounds-images-v
bounds-images-v c = omega (arith, ap length c.requires.images ∙ length-map-range_with_len (image_of (fates_of c.args.graph.now)) 0 (n_of c.args.graph.now))

pub name_copies-requires-clause-short : goal.name_copies-requires-clause-short
name_copies-requires-clause-short c = short_here c.args.graph.now (fates_of c.args.graph.now) c.loop-v.v c.requires.images (omega arith) c.if-image-v.false c.label.ensures.value c.requires.names

pub loop-v-preserved-then-image-v : goal.loop-v-preserved-then-image-v
loop-v-preserved-then-image-v c = runs_none (omega arith) c.loop-v.invariant (none_here c.args.graph.now (fates_of c.args.graph.now) c.loop-v.v c.requires.images (omega arith) c.if-image-v.true)

pub returns-in_err-name_copies : goal.returns-in_err-name_copies
returns-in_err-name_copies c =
    let p = err_from_is_err_and c.from_residual.result c.from_residual.ensures.1 in
    let here = named_here c.args.graph.now (fates_of c.args.graph.now) c.loop-v.v c.requires.images (omega arith) c.if-image-v.false c.label.ensures.value in
    rw (p.1, p.2) (runs_refused (omega arith) c.loop-v.invariant (subst (λ vs. RefusesNames c.loop-v.builder vs c.in_err-name_copies.field-0.0) here c.in_err-name_copies.ensures))

pub loop-v-preserved : goal.loop-v-preserved
loop-v-preserved c =
    let here = named_here c.args.graph.now (fates_of c.args.graph.now) c.loop-v.v c.requires.images (omega arith) c.if-image-v.false c.label.ensures.value in
    runs_some (omega arith) c.loop-v.invariant (c.in_ok-name_copies.ensures ∙ ap (with_named c.loop-v.builder) here)

pub returns : goal.returns
returns c = runs_end (omega arith) c.loop-v.invariant
