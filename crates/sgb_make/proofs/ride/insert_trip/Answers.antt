use Rattle.std.proofs.Common.{◌≡◌, ◌<◌, ◌+◌, ◌-◌, ℕ, pos, length, get_or, [], ◌∷◌, ap, subst, ◌∙◌, sym, arith, to_z}
use Rattle.std.specs.Int.{w64}
use Rattle.std.proofs.lemmas.Int.{to_z_pos}
use Rattle.std.proofs.lemmas.Result.{err_from_is_err_and}
use Rattle.sgb_graph.specs.Builder.{insertion, grown}
use Rattle.sgb_graph.proofs.InsertionRuns.{RefusesInsertions}
use Rattle.sgb_make.proofs.Trips.{trip_start, trip_none, trip_back, trip_some, trip_refused, trip_end, trip_n}
use Rattle.sgb_make.proofs.ride.insert_trip.Goals as goal

pub loop-len-init : goal.loop-len-init
loop-len-init c =
    trip_start c.args.builder.now c.args.table.now c.args.rides c.args.from _ (ap (λ k. k + 1) c.most_steps-end.ensures.most) c.requires.from

pub bounds-table-at : goal.bounds-table-at
bounds-table-at c = c.loop-len.invariant.on

pub returns-then-link-eq0 : goal.returns-then-link-eq0
returns-then-link-eq0 c = trip_none (omega arith) c.if-link-eq0.true c.loop-len.invariant

pub returns-then-is_back : goal.returns-then-is_back
returns-then-is_back c = trip_back (omega arith) (sym c.is_back.ensures ∙ c.if-is_back.true) c.loop-len.invariant

pub insert-requires-clause-from : goal.insert-requires-clause-from
insert-requires-clause-from c = omega (arith, trip_n c.loop-len.invariant)

pub insert-requires-clause-to : goal.insert-requires-clause-to
insert-requires-clause-to c = omega (arith, trip_n c.loop-len.invariant, c.requires.low c.loop-len.at 0 c.loop-len.invariant.on)

pub returns-in_err-insert : goal.returns-in_err-insert
returns-in_err-insert c =
    let p = err_from_is_err_and c.from_residual.result c.from_residual.ensures.1 in
    let len : to_z w64 c.loop-len.len ≡ pos c.loop-len.len = to_z_pos w64 c.loop-len.len (omega arith) in
    let to : ℕ = get_or c.args.table.now c.loop-len.at 0 - 1 in
    rw (p.1, p.2) (trip_refused (omega arith) (omega arith) (sym c.is_back.ensures ∙ c.if-is_back.false) c.loop-len.invariant
    (subst (λ z. RefusesInsertions c.loop-len.builder (insertion c.args.from to z ∷ []) c.in_err-insert.field-0.0) len c.in_err-insert.ensures.value))

pub loop-len-preserved : goal.loop-len-preserved
loop-len-preserved c =
    let len : to_z w64 c.loop-len.len ≡ pos c.loop-len.len = to_z_pos w64 c.loop-len.len (omega arith) in
    let to : ℕ = get_or c.args.table.now c.loop-len.at 0 - 1 in
    let low : to < length c.args.table.now = omega (arith, c.requires.low c.loop-len.at 0 c.loop-len.invariant.on) in
    trip_some (omega arith) (omega arith) (sym c.is_back.ensures ∙ c.if-is_back.false) low c.loop-len.invariant
    (c.in_ok-insert.ensures.value ∙ ap (λ z. grown c.loop-len.builder (insertion c.args.from to z ∷ [])) len)

pub returns : goal.returns
returns c = trip_end (omega arith) c.loop-len.invariant
