use Rattle.std.proofs.Common.{length, arith}
use Rattle.std.proofs.lemmas.Result.{err_from_is_err_and}
use Rattle.sgb_graph.proofs.InsertionRuns.{from_start, from_some, from_refused, from_end, from_n}
use Rattle.sgb_make.specs.Private.Link.{trip_from, trips}
use Rattle.sgb_make.proofs.ride.insert_trips.Goals as goal

pub loop-from-init : goal.loop-from-init
unfolding trips
loop-from-init c = from_start c.args.builder.now (trip_from c.args.table.now c.args.rides) (length c.args.table.now)

pub insert_trip-requires-clause-count : goal.insert_trip-requires-clause-count
insert_trip-requires-clause-count c = omega (arith, from_n c.loop-from.invariant)

pub returns-in_err-insert_trip : goal.returns-in_err-insert_trip
returns-in_err-insert_trip c =
    let p = err_from_is_err_and c.from_residual.result c.from_residual.ensures.1 in
    rw (p.1, p.2) (from_refused (omega arith) c.loop-from.invariant c.in_err-insert_trip.ensures)

pub loop-from-preserved : goal.loop-from-preserved
loop-from-preserved c = from_some (omega arith) c.loop-from.invariant c.in_ok-insert_trip.ensures

pub returns : goal.returns
returns c = from_end (omega arith) c.loop-from.invariant
