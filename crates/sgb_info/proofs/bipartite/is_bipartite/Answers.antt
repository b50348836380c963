use Rattle.std.proofs.Common.{◌≡◌, ◌<◌, ◌+◌, ◌*◌, ℕ, ap, sym, subst, length, All, arith}
use Rattle.std.proofs.lemmas.Bool.Decides.{Decides-like}
use Rattle.std.proofs.lemmas.List.FromFn.{length-range_with_len}
use Rattle.sgb_graph.specs.Graph.{n_of, arcs_of}
use Rattle.sgb_info.specs.Private.Classes.{AreApart, AreWithin, IsCrossed, IsPut}
use Rattle.sgb_info.proofs.ClassLemmas.{alone_within}
use Rattle.sgb_info.proofs.ComponentLemmas.{apart, colours}
use Rattle.sgb_info.proofs.bipartite.is_bipartite.Goals as goal

pub join_arcs-requires-clause-room : goal.join_arcs-requires-clause-room
join_arcs-requires-clause-room c =
    omega (arith, ap length c.in_ok-classes.ensures.ok, length-range_with_len 0 (2 * c.n-n.result), c.n-n.ensures.value)

pub are_apart-requires-clause-room : goal.are_apart-requires-clause-room
are_apart-requires-clause-room c =
    omega (arith, ap length c.in_ok-classes.ensures.ok, length-range_with_len 0 (2 * c.n-n.result), c.join_arcs.ensures.joins.len)

pub returns-clause-ok : goal.returns-clause-ok
returns-clause-ok c =
    let g = c.args.graph.now in
    let ls = c.join_arcs.new.classes in
    let n_is : c.n-n.result ≡ n_of g = c.n-n.ensures.value in
    let long : length ls ≡ n_of g + n_of g =
    omega (arith, ap length c.in_ok-classes.ensures.ok, length-range_with_len 0 (2 * c.n-n.result), n_is, c.join_arcs.ensures.joins.len) in
    let start = subst (AreWithin (IsCrossed g c.n-n.result)) (sym c.in_ok-classes.ensures.ok) (alone_within (IsCrossed g c.n-n.result) (2 * c.n-n.result)) in
    let within = subst (λ n. AreWithin (IsCrossed g n) ls) n_is (c.join_arcs.ensures.joins.within start) in
    let put = λ (u : ℕ) (lt : u < n_of g). subst (λ n. All (IsPut g n u ls) (arcs_of g u)) n_is (c.join_arcs.ensures.put u lt) in
    Decides-like c.are_apart.result
    (λ differ. colours g ls put (subst (λ n. AreApart n ls) n_is differ))
    (λ coloured. subst (λ n. AreApart n ls) (sym n_is) (apart g ls c.n-n.ensures.graph long within coloured))
    c.are_apart.ensures
