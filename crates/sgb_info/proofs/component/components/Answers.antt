use Rattle.std.proofs.Common.{◌≡◌, ap, sym, subst, length, arith}
use Rattle.std.proofs.lemmas.List.FromFn.{length-range_with_len}
use Rattle.sgb_graph.specs.Graph.{n_of}
use Rattle.sgb_info.specs.Private.Classes.{AreWithin, IsCrossed, least_of_each}
use Rattle.sgb_info.proofs.ClassLemmas.{alone_within}
use Rattle.sgb_info.proofs.ComponentLemmas.{one_of_each}
use Rattle.sgb_info.proofs.component.components.Goals as goal

pub join_arcs-requires-clause-room : goal.join_arcs-requires-clause-room
join_arcs-requires-clause-room c =
    omega (arith, ap length c.in_ok-classes.ensures.ok, length-range_with_len 0 c.n.result, c.n.ensures.value)

pub overflow_cast-result : goal.overflow_cast-result
overflow_cast-result c =
    omega (arith, ap length c.in_ok-classes.ensures.ok, length-range_with_len 0 c.n.result, c.n.ensures.limit, c.join_arcs.ensures.joins.len, c.count.ensures.limit)

pub returns-clause-ok : goal.returns-clause-ok
returns-clause-ok c =
    let g = c.args.graph.now in
    let ls = c.join_arcs.new.classes in
    let long : length ls ≡ n_of g = omega (arith, ap length c.in_ok-classes.ensures.ok, length-range_with_len 0 c.n.result, c.n.ensures.value, c.join_arcs.ensures.joins.len) in
    let start = subst (AreWithin (IsCrossed g 0)) (sym c.in_ok-classes.ensures.ok) (alone_within (IsCrossed g 0) c.n.result) in
    let within = c.join_arcs.ensures.joins.within start in
    (least_of_each ls, one_of_each g ls c.count.ensures.classes long within c.join_arcs.ensures.put, sym c.count.ensures.value)
