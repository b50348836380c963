use Rattle.std.proofs.Common.{◌<◌, length, All, IsSome, ap, sym, subst, ◌∙◌, arith}
use Rattle.std.proofs.lemmas.List.Elements.{All-tail}
use Rattle.sgb_graph.specs.Graph.{arc_at, made_of}
use Rattle.sgb_export.proofs.ExportedArcs.{written, written_start, written_skip, written_one, few_at}
use Rattle.sgb_export.proofs.count.count_links_at.Goals as goal

pub loop-number-init : goal.loop-number-init
loop-number-init c =
    let s = c.args.graph.now in
    let v = c.args.vertex.0 in
    let walked = c.into_iter-number-iterator.ensures.into_iter_gives in
    let start = walked ∙ c.walk-number-items.ensures.value in
    let less = few_at c.args.directed s v _ start in
    let few = c.walk-number-items.ensures.few in
    let most = c.walk-number-items.ensures.graph.few_arcs in record {
      total = omega (arith, ap length (written_start c.args.directed s v _ start));
      few = omega (arith, less, few, most, ap length walked);
      live = subst (All (λ k. IsSome (arc_at s k))) (sym walked) c.walk-number-items.ensures.live;
      within = subst (All (λ k. k < made_of s)) (sym walked) c.walk-number-items.ensures.within;
    }

pub overflow_add-count : goal.overflow_add-count
overflow_add-count c =
    let total = c.loop-number.invariant.total in
    let few = c.loop-number.invariant.few in
    omega (arith, total, few)

pub loop-number-preserved-then-not-is_written : goal.loop-number-preserved-then-not-is_written
loop-number-preserved-then-not-is_written c =
    let s = c.args.graph.now in
    let total = c.loop-number.invariant.total in
    let skip = written_skip c.args.directed s c.args.vertex.0 _ _ _ _ c.in-Some.ensures.steps c.link_at.ensures.value (sym c.is_written.ensures ∙ c.if-not-is_written.true) in record {
      total = omega (arith, total, ap length skip);
      few = c.loop-number.invariant.few;
      live = All-tail (λ k. IsSome (arc_at s k)) _ _ (subst (All (λ k. IsSome (arc_at s k))) c.in-Some.ensures.steps c.loop-number.invariant.live);
      within = All-tail (λ k. k < made_of s) _ _ (subst (All (λ k. k < made_of s)) c.in-Some.ensures.steps c.loop-number.invariant.within);
    }

pub loop-number-preserved : goal.loop-number-preserved
loop-number-preserved c =
    let s = c.args.graph.now in
    let total = c.loop-number.invariant.total in
    let one = written_one c.args.directed s c.args.vertex.0 _ _ _ _ c.in-Some.ensures.steps c.link_at.ensures.value (sym c.is_written.ensures ∙ c.if-not-is_written.false) in record {
      total = omega (arith, total, ap length one);
      few = c.loop-number.invariant.few;
      live = All-tail (λ k. IsSome (arc_at s k)) _ _ (subst (All (λ k. IsSome (arc_at s k))) c.in-Some.ensures.steps c.loop-number.invariant.live);
      within = All-tail (λ k. k < made_of s) _ _ (subst (All (λ k. k < made_of s)) c.in-Some.ensures.steps c.loop-number.invariant.within);
    }

pub returns : goal.returns
returns c =
    let s = c.args.graph.now in
    let total = c.loop-number.invariant.total in
    let few = c.loop-number.invariant.few in
    let none = ap (λ ks. length (written c.args.directed s c.args.vertex.0 ks)) c.in-None.ensures.steps.0 in
    record { value = omega (arith, total, none); few = omega (arith, total, few) }
