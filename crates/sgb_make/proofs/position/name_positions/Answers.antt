use Rattle.std.proofs.Common.{◌≡◌, ◌+◌, ◌∷◌, [], length, map, replicate, ap, sym, subst, ◌∙◌, arith}
use Rattle.std.proofs.lemmas.List.{with_items_is}
use Rattle.std.proofs.lemmas.Result.{err_from_is_err_and}
use Rattle.sgb_plan.specs.Plan.{with_named}
use Rattle.sgb_plan.proofs.Plans.{RefusesNames, NamesOf, names_of_start, names_of_some, names_of_refused, names_of_end}
use Rattle.sgb_simplex.specs.Points.{point_vertex}
use Rattle.sgb_make.specs.Ride.{positions}
use Rattle.sgb_make.specs.Private.Rank.{IsOn, rank}
use Rattle.sgb_make.proofs.Advances.{zeros_on, rank-zeros, length-on}
use Rattle.sgb_make.proofs.PositionNames.{position_here}
use Rattle.sgb_make.proofs.Ranks.{length-positions}
use Rattle.sgb_make.proofs.position.name_positions.Goals as goal

pub loop-init : goal.loop-init
loop-init c =
    let sides = c.args.sides.now in
    let zeros : c.in_ok-position.position.items ≡ replicate (length sides) 0 = c.in_ok-position.ensures.items_if_clones_equal (λ y same. same) in
    record {
      left = subst (λ b. NamesOf c.args.builder.now (map point_vertex (positions sides)) b point_vertex (positions sides) 0) (sym c.reserve_vertices.ensures.same) (names_of_start c.args.builder.now point_vertex (positions sides));
      on = subst (IsOn sides) (sym zeros) (zeros_on sides c.requires.small);
      number = λ some. ap (rank sides) zeros ∙ rank-zeros sides;
    }

pub push_point-requires : goal.push_point-requires
push_point-requires c = omega (arith, c.requires.few, length-on c.args.sides.now c.loop.position.items c.loop.invariant.on, ap length c.deref.ensures.value)

pub returns-in_err-push_point : goal.returns-in_err-push_point
returns-in_err-push_point c =
    let sides = c.args.sides.now in
    let p = err_from_is_err_and c.from_residual-in_err-push_point.result c.from_residual-in_err-push_point.ensures.1 in
    let number = c.loop.invariant.number (omega arith) in
    rw (p.1, p.2)
    (names_of_refused c.loop.position.items (omega (arith, length-positions sides)) (position_here sides c.loop.position.items c.loop.counter c.loop.invariant.on number) c.loop.invariant.left
    (subst (λ x. RefusesNames c.loop.builder (point_vertex x ∷ []) c.in_err-push_point.field-0.0) c.deref.ensures.value c.in_err-push_point.ensures))

pub advance-requires : goal.advance-requires
advance-requires c = subst (IsOn c.args.sides.now) (sym c.deref_mut.ensures.value) c.loop.invariant.on

pub loop-preserved : goal.loop-preserved
loop-preserved c =
    let sides = c.args.sides.now in
    let number = c.loop.invariant.number (omega arith) in
    let items = with_items_is c.loop.position c.advance.new.position (omega (arith, c.advance.auto.position, c.deref_mut.ensures.len)) in
    let now : rank sides c.deref_mut.result.now ≡ c.loop.counter = ap (rank sides) c.deref_mut.ensures.value ∙ number in
    record {
      left = names_of_some c.loop.position.items (omega (arith, length-positions sides)) (position_here sides c.loop.position.items c.loop.counter c.loop.invariant.on number) c.loop.invariant.left
          (c.in_ok-push_point.ensures ∙ ap (λ x. with_named c.loop.builder (point_vertex x ∷ [])) c.deref.ensures.value);
      on = subst (IsOn sides) (sym items) c.advance.ensures.on;
      number = λ more. ap (rank sides) items ∙ (c.advance.ensures.next (omega (arith, more, now, c.requires.count)) ∙ ap (λ k. k + 1) now);
    }

pub returns : goal.returns
returns c = names_of_end (omega (arith, length-positions c.args.sides.now)) c.loop.invariant.left
