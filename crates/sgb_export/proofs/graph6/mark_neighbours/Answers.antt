use Rattle.std.proofs.Common.{◌≤◌, ◌<◌, ◌+◌, length, All, IsSome, ap, sym, subst, ◌∙◌, arith}
use Rattle.std.proofs.lemmas.List.{length-set}
use Rattle.std.proofs.lemmas.List.Elements.{All-tail, All-set}
use Rattle.sgb_graph.specs.Graph.{arc_at, made_of}
use Rattle.sgb_export.specs.declared.link.Link.{Link}
use Rattle.sgb_export.proofs.OtherEnds.{marked_start, marked_one, marked_all}
use Rattle.sgb_export.proofs.SimpleEdges.{low_at}
use Rattle.sgb_export.proofs.graph6.mark_neighbours.Goals as goal

pub loop-number-init : goal.loop-number-init
loop-number-init c =
    let s = c.args.graph.now in
    let v = c.args.vertex.0 in
    let walked = c.into_iter-number-iterator.ensures.into_iter_gives in record {
      marked = λ w. let low = low_at v c.args.marks.now c.requires.low w in marked_start s v w (v + 1) c.args.marks.now _ (omega (arith, low)) (walked ∙ c.arcs-number-items.ensures.value);
      count = c.requires.count;
      low = λ k d h. let low = c.requires.low k d h in omega (arith, low);
      live = subst (All (λ k. IsSome (arc_at s k))) (sym walked) c.arcs-number-items.ensures.live;
      within = subst (All (λ k. k < made_of s)) (sym walked) c.arcs-number-items.ensures.within;
    }

pub loop-number-preserved : goal.loop-number-preserved
loop-number-preserved c =
    let s = c.args.graph.now in
    let v = c.args.vertex.0 in
    let l = c.link_at-link.result in
    let marks = c.loop-number.marks in
    let to = c.link_at-link.ensures.to in
    let count = c.loop-number.invariant.count in
    let inside : l.to < length marks = omega (arith, to, count) in record {
      marked = λ w. marked_one s w (v + 1) l.to c.in-Some.number.0 marks c.next.new.self _ c.in-Some.ensures.steps (ap (λ (x : Link). x.to) c.link_at-link.ensures.value) inside ∙ c.loop-number.invariant.marked w;
      count = length-set marks l.to (v + 1) ∙ count;
      low = All-set (λ x. x ≤ v + 1) marks l.to (v + 1) (omega arith) c.loop-number.invariant.low;
      live = All-tail (λ k. IsSome (arc_at s k)) _ _ (subst (All (λ k. IsSome (arc_at s k))) c.in-Some.ensures.steps c.loop-number.invariant.live);
      within = All-tail (λ k. k < made_of s) _ _ (subst (All (λ k. k < made_of s)) c.in-Some.ensures.steps c.loop-number.invariant.within);
    }

pub returns : goal.returns
returns c = record {
  count = c.loop-number.invariant.count;
  low = c.loop-number.invariant.low;
  marked = λ w. marked_all c.args.graph.now c.args.vertex.0 w (c.args.vertex.0 + 1) c.loop-number.marks _ c.in-None.ensures.steps.0 (c.loop-number.invariant.marked w);
}
