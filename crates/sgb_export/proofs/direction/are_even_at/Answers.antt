use Rattle.std.proofs.Common.{◌<◌, false, All, IsSome, ap, sym, subst, ◌∙◌}
use Rattle.std.specs.List.{list_all}
use Rattle.std.proofs.lemmas.List.Elements.{All-tail}
use Rattle.sgb_graph.specs.Graph.{arc_at, made_of}
use Rattle.sgb_export.specs.Links.{is_even}
use Rattle.sgb_export.proofs.ExportedArcs.{written, written_start, even_skip, even_not}
use Rattle.sgb_export.proofs.direction.are_even_at.Goals as goal

pub loop-number-init : goal.loop-number-init
loop-number-init c =
    let s = c.args.graph.now in
    let walked = c.into_iter-number-iterator.ensures.into_iter_gives in record {
      same = ap (list_all (is_even s)) (written_start false s c.args.vertex.0 _ (walked ∙ c.walk-number-items.ensures.value));
      live = subst (All (λ k. IsSome (arc_at s k))) (sym walked) c.walk-number-items.ensures.live;
      within = subst (All (λ k. k < made_of s)) (sym walked) c.walk-number-items.ensures.within;
    }

pub loop-number-preserved : goal.loop-number-preserved
loop-number-preserved c =
    let s = c.args.graph.now in record {
      same = c.loop-number.invariant.same ∙ even_skip s c.args.vertex.0 _ _ _ _ c.in-Some.ensures.steps c.link_at.ensures.value (sym c.is_uneven.ensures ∙ c.if-is_uneven.false);
      live = All-tail (λ k. IsSome (arc_at s k)) _ _ (subst (All (λ k. IsSome (arc_at s k))) c.in-Some.ensures.steps c.loop-number.invariant.live);
      within = All-tail (λ k. k < made_of s) _ _ (subst (All (λ k. k < made_of s)) c.in-Some.ensures.steps c.loop-number.invariant.within);
    }

pub returns-then-is_uneven : goal.returns-then-is_uneven
returns-then-is_uneven c =
    sym (c.loop-number.invariant.same ∙ even_not c.args.graph.now c.args.vertex.0 _ _ _ _ c.in-Some.ensures.steps c.link_at.ensures.value (sym c.is_uneven.ensures ∙ c.if-is_uneven.true))

pub returns : goal.returns
returns c =
    let s = c.args.graph.now in
    sym (c.loop-number.invariant.same ∙ ap (λ ks. list_all (is_even s) (written false s c.args.vertex.0 ks)) c.in-None.ensures.steps.0)
