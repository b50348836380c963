use Rattle.std.proofs.Common.{rules, FitsSigned, w64, ◌==◌, ◌&&◌, ◌∷◌, ◌++◌, [], not, All, IsSome, sym, ap, subst, ◌∙◌}
use Rattle.std.proofs.lemmas.Int.{to_z-of_z}
use Rattle.std.proofs.lemmas.List.Elements.{All-tail}
use Rattle.sgb_graph.specs.Graph.{arc_at}
use Rattle.sgb_induced.specs.Induced.{is_met}
use Rattle.sgb_induced.specs.declared.image.Image.{Image}
use Rattle.sgb_induced.proofs.ArcRuns.{appends_start, appends_skip, appends_one, run_is}
use Rattle.sgb_induced.proofs.gather.append_runs.Goals as goal

pub loop-number-init : goal.loop-number-init
loop-number-init c = record {
  appends = appends_start c.args.directed c.args.graph.now c.args.images.now c.args.vertex.0 c.args.runs.now.items (c.into_iter-number-iterator.ensures.into_iter_gives ∙ c.walk-number-items.ensures.value);
  live = subst (All (λ k. IsSome (arc_at c.args.graph.now k))) (sym c.into_iter-number-iterator.ensures.into_iter_gives) c.walk-number-items.ensures.live;
}

pub loop-number-preserved-then-not-is_run : goal.loop-number-preserved-then-not-is_run
loop-number-preserved-then-not-is_run c = record {
  appends = appends_skip c.spoke_at-spoke.result c.in-Some.ensures.steps c.spoke_at-spoke.ensures
      (ap (λ (i : Image). is_met c.args.directed c.args.vertex.0 c.spoke_at-spoke.result && not (i.count == 0)) (sym c.image_at-image.ensures) ∙ (sym c.is_run.ensures ∙ c.if-not-is_run.true))
      c.loop-number.invariant.appends;
  live = All-tail (λ k. IsSome (arc_at c.args.graph.now k)) _ _ (subst (All (λ k. IsSome (arc_at c.args.graph.now k))) c.in-Some.ensures.steps c.loop-number.invariant.live);
}

pub loop-number-preserved : goal.loop-number-preserved
loop-number-preserved c =
    let fits : FitsSigned w64 c.spoke_at-spoke.result.len = search rules in
    record {
      appends = appends_one c.spoke_at-spoke.result c.in-Some.ensures.steps c.spoke_at-spoke.ensures
          (ap (λ (i : Image). is_met c.args.directed c.args.vertex.0 c.spoke_at-spoke.result && not (i.count == 0)) (sym c.image_at-image.ensures) ∙ (sym c.is_run.ensures ∙ c.if-not-is_run.false))
          (c.in_ok-push.ensures.items
          ∙ ap (λ r. c.loop-number.runs.items ++ r ∷ []) (run_is c.args.images.now c.args.vertex.0 c.spoke_at-spoke.result c.image_at-from.result c.image_at-image.result c.image_at-from.ensures c.image_at-image.ensures (to_z-of_z w64 c.spoke_at-spoke.result.len fits)))
          c.loop-number.invariant.appends;
      live = All-tail (λ k. IsSome (arc_at c.args.graph.now k)) _ _ (subst (All (λ k. IsSome (arc_at c.args.graph.now k))) c.in-Some.ensures.steps c.loop-number.invariant.live);
    }
