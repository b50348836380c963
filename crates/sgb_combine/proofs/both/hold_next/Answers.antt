use Rattle.std.proofs.Common.{All, IsSome, subst}
use Rattle.std.proofs.lemmas.List.Elements.{All-tail}
use Rattle.sgb_graph.specs.Graph.{arc_at}
use Rattle.sgb_combine.specs.Gunion.{is_candidate}
use Rattle.sgb_combine.proofs.WalkedSpokes.{next_passing}
use Rattle.sgb_combine.proofs.both.hold_next.Goals as goal

pub returns-in_err-hold-clause-live : goal.returns-in_err-hold-clause-live
returns-in_err-hold-clause-live c =
    All-tail (λ k. IsSome (arc_at c.args.graph.now k)) _ _ (subst (All (λ k. IsSome (arc_at c.args.graph.now k))) c.in-Some.ensures.steps c.requires)

pub returns-clause-held : goal.returns-clause-held
returns-clause-held c =
    let s = c.args.sought in
    next_passing c.args.graph.now (is_candidate s.directed s.n s.vertex.0) _ _ _ _ _ c.in-Some.ensures.steps c.in_ok-hold.ensures

pub returns-clause-live : goal.returns-clause-live
returns-clause-live c =
    All-tail (λ k. IsSome (arc_at c.args.graph.now k)) _ _ (subst (All (λ k. IsSome (arc_at c.args.graph.now k))) c.in-Some.ensures.steps c.requires)
