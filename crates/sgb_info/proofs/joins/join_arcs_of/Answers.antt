use Rattle.std.proofs.Common.{◌<◌, All, IsSome, sym, subst, ◌∙◌, arith}
use Rattle.std.specs.List.{Contains}
use Rattle.std.proofs.lemmas.List.Elements.{All-tail, All-contains_itself}
use Rattle.sgb_graph.specs.Graph.{arc_at, arcs_of, made_of}
use Rattle.sgb_info.proofs.ClassLemmas.{joins_none, joins_then, none_put, one_put, all_put}
use Rattle.sgb_info.proofs.joins.join_arcs_of.Goals as goal

pub loop-number-init : goal.loop-number-init
loop-number-init c =
    let g = c.args.graph.now in
    let u = c.args.vertex.0 in
    let walked = c.into_iter-number-iterator.ensures.into_iter_gives in
    let all = walked ∙ c.arcs-number-items.ensures.value in record {
      joins = joins_none g c.args.gap c.args.classes.now;
      live = subst (All (λ k. IsSome (arc_at g k))) (sym walked) c.arcs-number-items.ensures.live;
      within = subst (All (λ k. k < made_of g)) (sym walked) c.arcs-number-items.ensures.within;
      listed = subst (All (Contains (arcs_of g u))) (sym all) (All-contains_itself (arcs_of g u));
      put = none_put g c.args.gap u c.args.classes.now _ all;
    }

pub join_arc-requires-clause-room : goal.join_arc-requires-clause-room
join_arc-requires-clause-room c = omega (arith, c.requires.room, c.loop-number.invariant.joins.len)

pub loop-number-preserved : goal.loop-number-preserved
loop-number-preserved c =
    let g = c.args.graph.now in
    let u = c.args.vertex.0 in
    let before = c.loop-number.invariant in
    let steps = c.in-Some.ensures.steps in record {
      joins = joins_then g c.args.gap _ _ _ before.joins c.join_arc.ensures.joins;
      live = All-tail (λ k. IsSome (arc_at g k)) _ _ (subst (All (λ k. IsSome (arc_at g k))) steps before.live);
      within = All-tail (λ k. k < made_of g) _ _ (subst (All (λ k. k < made_of g)) steps before.within);
      listed = All-tail (Contains (arcs_of g u)) _ _ (subst (All (Contains (arcs_of g u))) steps before.listed);
      put = one_put g c.args.gap u _ _ _ _ _ before.put steps c.join_arc.ensures.joins c.join_arc.ensures.put;
    }

pub returns : goal.returns
returns c =
    let last = c.loop-number.invariant in record {
      joins = last.joins;
      put = all_put c.args.graph.now c.args.gap c.args.vertex.0 _ _ last.put c.in-None.ensures.steps.0;
    }
