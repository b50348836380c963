use Rattle.std.proofs.Common.{All, IsSome, arith, ap, sym, subst, ◌∙◌}
use Rattle.std.specs.List.{filter}
use Rattle.std.proofs.lemmas.List.Elements.{All-tail}
use Rattle.sgb_graph.specs.Graph.{n_of, arc_at}
use Rattle.sgb_graph.specs.Operand.{spokes}
use Rattle.sgb_combine.specs.Gunion.{is_candidate}
use Rattle.sgb_combine.proofs.WalkedSpokes.{holds_from, holds_one, holds_next, passing_walk, passing_past, from_nothing}
use Rattle.sgb_combine.proofs.both.Both.read.Goals as goal

pub returns-then-vertex-n-clause-mine : goal.returns-then-vertex-n-clause-mine
returns-then-vertex-n-clause-mine c =
    let v = c.args.vertex.0 in
    from_nothing c.in_ok-hold_rest.ensures c.clear.ensures.items
    (passing_walk c.args.halves c.args.first.now v (is_candidate c.args.directed c.n-n.result v) c.walk-numbers.result c.walk-numbers.ensures.value)
    ∙ ap (λ n. filter (is_candidate c.args.directed n v) (spokes c.args.halves c.args.first.now v)) c.n-n.ensures.value

pub returns-then-vertex-n-clause-theirs : goal.returns-then-vertex-n-clause-theirs
returns-then-vertex-n-clause-theirs c =
    let v = c.args.vertex.0 in
    c.clear-2.ensures.items
    ∙ passing_past c.args.halves c.args.second.now v (is_candidate c.args.directed (n_of c.args.first.now) v) (omega (arith, c.n.ensures.value))

pub loop-number-init : goal.loop-number-init
loop-number-init c =
    let v = c.args.vertex.0 in
    let p = is_candidate c.args.directed c.n-n.result v in
    record {
      mine = holds_from c.args.halves c.args.first.now v p c.clear.new.self.items c.into_iter-number-iterator.result c.clear.ensures.items (c.into_iter-number-iterator.ensures.into_iter_gives ∙ c.walk-numbers.ensures.value);
      theirs = holds_from c.args.halves c.args.second.now v p c.clear-2.new.self.items c.walk-others.result c.clear-2.ensures.items c.walk-others.ensures.value;
      live = subst (All (λ k. IsSome (arc_at c.args.first.now k))) (sym c.into_iter-number-iterator.ensures.into_iter_gives) c.walk-numbers.ensures.live;
      others = c.walk-others.ensures.live;
    }

pub loop-number-preserved : goal.loop-number-preserved
loop-number-preserved c = record {
  mine = holds_one c.in-Some.ensures.steps c.in_ok-hold.ensures c.loop-number.invariant.mine;
  theirs = holds_next c.in_ok-hold_next.ensures.held c.loop-number.invariant.theirs;
  live = All-tail (λ k. IsSome (arc_at c.args.first.now k)) _ _ (subst (All (λ k. IsSome (arc_at c.args.first.now k))) c.in-Some.ensures.steps c.loop-number.invariant.live);
  others = c.in_ok-hold_next.ensures.live;
}
