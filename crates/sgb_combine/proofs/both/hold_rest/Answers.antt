use Rattle.std.proofs.Common.{All, IsSome, sym, subst}
use Rattle.std.proofs.lemmas.List.Elements.{All-tail}
use Rattle.sgb_graph.specs.Graph.{arc_at}
use Rattle.sgb_combine.specs.Gunion.{is_candidate}
use Rattle.sgb_combine.proofs.WalkedSpokes.{holds_start, holds_one, holds_end}
use Rattle.sgb_combine.proofs.both.hold_rest.Goals as goal

pub loop-number-init : goal.loop-number-init
loop-number-init c =
    let s = c.args.sought in
    record {
      holds = holds_start c.args.graph.now (is_candidate s.directed s.n s.vertex.0) c.args.into.now.items c.args.numbers c.into_iter-number-iterator.result c.into_iter-number-iterator.ensures.into_iter_gives;
      live = subst (All (λ k. IsSome (arc_at c.args.graph.now k))) (sym c.into_iter-number-iterator.ensures.into_iter_gives) c.requires;
    }

pub loop-number-preserved : goal.loop-number-preserved
loop-number-preserved c = record {
  holds = holds_one c.in-Some.ensures.steps c.in_ok-hold.ensures c.loop-number.invariant.holds;
  live = All-tail (λ k. IsSome (arc_at c.args.graph.now k)) _ _ (subst (All (λ k. IsSome (arc_at c.args.graph.now k))) c.in-Some.ensures.steps c.loop-number.invariant.live);
}

pub returns : goal.returns
returns c = holds_end c.in-None.ensures.steps.0 c.loop-number.invariant.holds
