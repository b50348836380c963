use Rattle.std.proofs.Common.{◌≡◌, ◌<◌, ◌+◌, ◌-◌, length, refl, sym, ap, subst, ◌∙◌, arith}
use Rattle.std.proofs.lemmas.Result.{err_from_is_err_and}
use Rattle.sgb_graph.specs.Builder.{grown}
use Rattle.sgb_graph.proofs.InsertionRuns.{LeftFrom, RefusesInsertions, from_some, from_none, from_refused, from_end, from_n}
use Rattle.sgb_perms.specs.Perms.{exchanges_of}
use Rattle.sgb_perms.specs.Private.Places.{LeadsWithin}
use Rattle.sgb_perms.proofs.Moves.{move_at, moves_start, move_some, move_none, descends_so, rises_so, place_so, row_back, from_within}
use Rattle.sgb_perms.proofs.exchanges.insert_to.Goals as goal
use Rattle.sgb_perms.proofs.exchanges.insert_to.Goals.{then-right-left+in_ok-insert, else-right-left}

pub loop-place-init : goal.loop-place-init
loop-place-init c = record {
  left = moves_start c.args.builder.now c.args.rows.now.rows c.args.to.0 c.row-row.result.now;
  moved = c.requires.moved ∙ sym c.row-row.ensures.value;
}

pub overflow_cast-from : goal.overflow_cast-from
overflow_cast-from c =
    let rows = c.args.rows.now.rows in
    let a = c.row-row.result.now in
    let place = c.loop-place.place in
    let low : place + 1 < length a = omega arith in
    let leads : LeadsWithin rows a = subst (LeadsWithin rows) (sym c.row-row.ensures.value) (c.requires.closed c.args.to.0 c.requires.vertex) in
    let descends = descends_so a a place refl c.if-right-left.true in
    let is = place_so rows c.loop-place.moved c.swap.new.self a place c.find_place-from.result c.loop-place.invariant.moved c.swap.ensures.after leads low descends (c.find_place-from.ensures rows c.requires.places) in
    let less = from_within rows a place c.find_place-from.result leads low descends is in
    omega (arith, c.requires.few)

pub insert-requires-clause-to : goal.insert-requires-clause-to
insert-requires-clause-to c = omega (arith, from_n c.loop-place.invariant.left, c.requires.vertices, c.requires.vertex)

pub insert-requires-clause-from : goal.insert-requires-clause-from
insert-requires-clause-from c =
    let rows = c.args.rows.now.rows in
    let a = c.row-row.result.now in
    let place = c.loop-place.place in
    let low : place + 1 < length a = omega arith in
    let leads : LeadsWithin rows a = subst (LeadsWithin rows) (sym c.row-row.ensures.value) (c.requires.closed c.args.to.0 c.requires.vertex) in
    let descends = descends_so a a place refl c.if-right-left.true in
    let is = place_so rows c.loop-place.moved c.swap.new.self a place c.find_place-from.result c.loop-place.invariant.moved c.swap.ensures.after leads low descends (c.find_place-from.ensures rows c.requires.places) in
    let less = from_within rows a place c.find_place-from.result leads low descends is in
    omega (arith, from_n c.loop-place.invariant.left, c.requires.vertices)

pub returns-in_err-insert : goal.returns-in_err-insert
returns-in_err-insert c =
    let p = err_from_is_err_and c.from_residual.result c.from_residual.ensures.1 in
    let rows = c.args.rows.now.rows in
    let a = c.row-row.result.now in
    let place = c.loop-place.place in
    let low : place + 1 < length a = omega arith in
    let leads : LeadsWithin rows a = subst (LeadsWithin rows) (sym c.row-row.ensures.value) (c.requires.closed c.args.to.0 c.requires.vertex) in
    let descends = descends_so a a place refl c.if-right-left.true in
    let is = place_so rows c.loop-place.moved c.swap.new.self a place c.find_place-from.result c.loop-place.invariant.moved c.swap.ensures.after leads low descends (c.find_place-from.ensures rows c.requires.places) in
    let refused : RefusesInsertions c.loop-place.builder (move_at rows c.args.to.0 a place) c.in_err-insert.field-0.0 =
    subst (λ es. RefusesInsertions c.loop-place.builder es c.in_err-insert.field-0.0) (move_some rows c.args.to.0 a place c.find_place-from.result descends is) c.in_err-insert.ensures.value in
    rw (p.1, p.2)
    (subst (λ r. RefusesInsertions c.args.builder.now (exchanges_of rows c.args.to.0 r) c.in_err-insert.field-0.0) c.row-row.ensures.value
    (from_refused (omega arith) c.loop-place.invariant.left refused))

pub loop-place-preserved : goal.loop-place-preserved
loop-place-preserved c =
    let rows = c.args.rows.now.rows in
    let a = c.row-row.result.now in
    let place = c.loop-place.place in
    let low : place + 1 < length a = omega arith in
    let inside : place < length a - 1 = omega arith in
    let leads : LeadsWithin rows a = subst (LeadsWithin rows) (sym c.row-row.ensures.value) (c.requires.closed c.args.to.0 c.requires.vertex) in
    elim c.if-right-left.branch [
      | then-right-left+in_ok-insert w ↦
          let descends = descends_so a a place refl w.if-right-left.true in
          let is = place_so rows c.loop-place.moved w.swap.new.self a place w.find_place-from.result c.loop-place.invariant.moved w.swap.ensures.after leads low descends (w.find_place-from.ensures rows c.requires.places) in
          record {
            left = from_some inside c.loop-place.invariant.left
                (w.builder-is ∙ (w.in_ok-insert.ensures.value ∙ ap (grown c.loop-place.builder) (move_some rows c.args.to.0 a place w.find_place-from.result descends is)));
            moved = w.moved-is ∙ row_back c.loop-place.moved w.swap.new.self w.swap-then-right-left.new.self a place low c.loop-place.invariant.moved w.swap.ensures.after w.swap-then-right-left.ensures.after;
          }
      | else-right-left w ↦
          record {
            left =
                subst (λ b. LeftFrom c.args.builder.now (exchanges_of rows c.args.to.0 a) b (move_at rows c.args.to.0 a) (place + 1) (length a - 1)) (sym w.builder-is)
                (from_none inside c.loop-place.invariant.left (move_none rows c.args.to.0 a place (rises_so a a place refl w.if-right-left.false)));
            moved = w.moved-is ∙ c.loop-place.invariant.moved;
          }
    ]

pub returns : goal.returns
returns c =
    subst (λ a. c.loop-place.builder ≡ grown c.args.builder.now (exchanges_of c.args.rows.now.rows c.args.to.0 a)) c.row-row.ensures.value
    (from_end (omega arith) c.loop-place.invariant.left)
