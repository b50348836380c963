use Rattle.std.proofs.Common.{◌++◌, length, All, IsSome, ap, sym, subst, ◌∙◌, arith}
use Rattle.std.proofs.lemmas.List.{append-nil}
use Rattle.std.proofs.lemmas.List.Elements.{All-tail}
use Rattle.sgb_graph.specs.Graph.{arc_at}
use Rattle.sgb_info.proofs.TipLists.{tips_of, tips_start, tips_skip, tips_one, tips_few, read_one}
use Rattle.sgb_info.proofs.repeats.read_tips.Goals as goal

pub loop-number-init : goal.loop-number-init
loop-number-init c =
    let s = c.args.graph.now in
    let v = c.args.vertex.0 in
    let walked = c.into_iter-number-iterator.ensures.into_iter_gives in
    let start = walked ∙ c.walk-number-items.ensures.value in
    let less = tips_few c.args.directed s v _ start in
    let few = c.walk-number-items.ensures.few in
    let most = c.walk-number-items.ensures.graph.few_arcs in record {
      read = ap (λ ts. ts ++ tips_of c.args.directed s v c.into_iter-number-iterator.result) c.clear.ensures.items ∙ tips_start c.args.directed s v _ start;
      few = omega (arith, less, few, most, ap length walked);
      live = subst (All (λ k. IsSome (arc_at s k))) (sym walked) c.walk-number-items.ensures.live;
    }

pub loop-number-preserved-then-not-is_written : goal.loop-number-preserved-then-not-is_written
loop-number-preserved-then-not-is_written c =
    let s = c.args.graph.now in
    let skip = tips_skip c.args.directed s c.args.vertex.0 _ _ _ c.spoke_at-spoke.result c.in-Some.ensures.steps c.spoke_at-spoke.ensures (sym c.is_written.ensures ∙ c.if-not-is_written.true) in record {
      read = ap (λ ts. c.loop-number.into.items ++ ts) (sym skip) ∙ c.loop-number.invariant.read;
      few = c.loop-number.invariant.few;
      live = All-tail (λ k. IsSome (arc_at s k)) _ _ (subst (All (λ k. IsSome (arc_at s k))) c.in-Some.ensures.steps c.loop-number.invariant.live);
    }

pub loop-number-preserved : goal.loop-number-preserved
loop-number-preserved c =
    let s = c.args.graph.now in
    let one = tips_one c.args.directed s c.args.vertex.0 _ _ _ c.spoke_at-spoke.result c.in-Some.ensures.steps c.spoke_at-spoke.ensures (sym c.is_written.ensures ∙ c.if-not-is_written.false) in record {
      read = read_one c.loop-number.into.items _ _ _ _ _ c.loop-number.invariant.read one c.in_ok-push.ensures.items;
      few = c.loop-number.invariant.few;
      live = All-tail (λ k. IsSome (arc_at s k)) _ _ (subst (All (λ k. IsSome (arc_at s k))) c.in-Some.ensures.steps c.loop-number.invariant.live);
    }

pub returns-clause-tips : goal.returns-clause-tips
returns-clause-tips c =
    let none = ap (tips_of c.args.directed c.args.graph.now c.args.vertex.0) c.in-None.ensures.steps.0 in
    sym (append-nil _) ∙ (ap (λ ts. c.loop-number.into.items ++ ts) (sym none) ∙ c.loop-number.invariant.read)
