use Rattle.std.proofs.Common.{[], Ok, sym, ap, subst, ◌∙◌, arith}
use Rattle.std.specs.List.{flat_map, range_with_len}
use Rattle.sgb_graph.specs.Graph.{IsGraph, n_of}
use Rattle.sgb_graph.specs.New.{bare_graph}
use Rattle.sgb_graph.specs.Builder.{grown}
use Rattle.sgb_graph.proofs.InsertionRuns.{RefusesInsertions, from_some, from_refused, from_end, from_n}
use Rattle.sgb_plan.proofs.Plans.{RefusesNames, made, refused_names, refused_insertions}
use Rattle.sgb_plan.proofs.PlanRefusals.{answered}
use Rattle.sgb_combine.specs.Private.Begin.{combined}
use Rattle.sgb_combine.proofs.Starts.{n_begun}
use Rattle.sgb_combine.proofs.combination.combine.Goals as goal

pub returns-in_err-name_vertices : goal.returns-in_err-name_vertices
returns-in_err-name_vertices g c =
    let plan = combined c.args.id c.args.graph.now c.args.directed (flat_map (g.C.Combination.insertions_at c.args.combination) (range_with_len 0 (n_of c.args.graph.now))) in
    let bare = c.new-builder.ensures ∙ ap (λ t. record { graph = bare_graph c.args.id t []; directed = c.args.directed }) c.none.ensures.value in
    answered (Ok plan) c.from_residual.result c.from_residual.ensures.1 (refused_names plan (subst (λ b. RefusesNames b plan.vertices c.in_err-name_vertices.field-0.0) bare c.in_err-name_vertices.ensures))

pub insert_from-requires-clause-from : goal.insert_from-requires-clause-from
insert_from-requires-clause-from g c = omega (arith, from_n c.loop-v.invariant.left ∙ n_begun c.args.id c.args.directed c.args.graph.now c.loop-v.invariant.named)

pub insert_from-requires-clause-fits : goal.insert_from-requires-clause-fits
insert_from-requires-clause-fits g c =
    subst (g.C.Combination.fits c.loop-v.combination) (sym (from_n c.loop-v.invariant.left ∙ n_begun c.args.id c.args.directed c.args.graph.now c.loop-v.invariant.named)) c.loop-v.invariant.fits

pub returns-in_err-insert_from : goal.returns-in_err-insert_from
returns-in_err-insert_from g c =
    let f = g.C.Combination.insertions_at c.args.combination in
    let plan = combined c.args.id c.args.graph.now c.args.directed (flat_map f (range_with_len 0 (n_of c.args.graph.now))) in
    answered (Ok plan) c.from_residual-in_err-insert_from.result c.from_residual-in_err-insert_from.ensures.1
    (refused_insertions plan c.loop-v.invariant.named (from_refused (omega arith) c.loop-v.invariant.left
    (subst (λ f. RefusesInsertions c.loop-v.builder (f c.loop-v.v) c.in_err-insert_from.field-0.0) c.loop-v.invariant.same c.in_err-insert_from.ensures.inserts)))

pub loop-v-preserved : goal.loop-v-preserved
loop-v-preserved g c = record {
  named = c.loop-v.invariant.named;
  left = from_some (omega arith) c.loop-v.invariant.left (c.in_ok-insert_from.ensures.inserts ∙ ap (λ f. grown c.loop-v.builder (f c.loop-v.v)) c.loop-v.invariant.same);
  same = c.in_ok-insert_from.ensures.same ∙ c.loop-v.invariant.same;
  fits = subst (g.C.Combination.fits c.insert_from.new.self) (from_n c.loop-v.invariant.left ∙ n_begun c.args.id c.args.directed c.args.graph.now c.loop-v.invariant.named) c.in_ok-insert_from.ensures.fits;
}

pub returns : goal.returns
returns g c =
    let plan = combined c.args.id c.args.graph.now c.args.directed (flat_map (g.C.Combination.insertions_at c.args.combination) (range_with_len 0 (n_of c.args.graph.now))) in
    rw c.finish.ensures.value (made plan c.loop-v.invariant.named (from_end (omega arith) c.loop-v.invariant.left) (subst IsGraph c.finish.ensures.value c.finish.ensures.sound))
