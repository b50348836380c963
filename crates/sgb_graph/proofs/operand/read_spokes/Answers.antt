use Rattle.std.proofs.Common.{All, IsSome, length, take, sym, ap, subst, ◌∙◌}
use Rattle.std.proofs.lemmas.List.Elements.{All-tail}
use Rattle.sgb_graph.specs.Graph.{arc_at}
use Rattle.sgb_graph.proofs.Spokes.{reads_start, reads_one, reads_end, spokes_within}
use Rattle.sgb_graph.proofs.operand.read_spokes.Goals as goal

pub loop-number-init : goal.loop-number-init
loop-number-init c = record {
  reads = reads_start c.args.directed c.args.graph.now c.args.vertex.0 c.args.into.now.items c.into_iter-number-iterator.result (c.into_iter-number-iterator.ensures.into_iter_gives ∙ c.walk-number-items.ensures.value);
  live = subst (All (λ k. IsSome (arc_at c.args.graph.now k))) (sym c.into_iter-number-iterator.ensures.into_iter_gives) c.walk-number-items.ensures.live;
}

pub loop-number-preserved : goal.loop-number-preserved
loop-number-preserved c = record {
  reads = reads_one c.in-Some.ensures.steps c.spoke_at.ensures c.loop-number.invariant.reads c.in_ok-push.ensures.items;
  live = All-tail (λ k. IsSome (arc_at c.args.graph.now k)) _ _ (subst (All (λ k. IsSome (arc_at c.args.graph.now k))) c.in-Some.ensures.steps c.loop-number.invariant.live);
}

pub returns-in_err-push-clause-kept : goal.returns-in_err-push-clause-kept
returns-in_err-push-clause-kept c =
    ap (take (length c.args.into.now.items)) c.in_err-push.ensures.items ∙ c.loop-number.invariant.reads.kept

pub returns-in_err-push-clause-within : goal.returns-in_err-push-clause-within
returns-in_err-push-clause-within c =
    spokes_within c.args.directed c.args.graph.now c.args.vertex.0 c.walk-number-items.ensures.graph c.requires

pub returns-clause-ok : goal.returns-clause-ok
returns-clause-ok c = reads_end c.in-None.ensures.steps.0 c.loop-number.invariant.reads

pub returns-clause-kept : goal.returns-clause-kept
returns-clause-kept c = c.loop-number.invariant.reads.kept

pub returns-clause-within : goal.returns-clause-within
returns-clause-within c =
    spokes_within c.args.directed c.args.graph.now c.args.vertex.0 c.walk-number-items.ensures.graph c.requires
