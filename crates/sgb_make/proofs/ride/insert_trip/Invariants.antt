use Rattle.sgb_make.specs.Private.Link.{trip_from}
use Rattle.sgb_make.proofs.Trips.{TripLeft}
use Rattle.sgb_make.proofs.ride.insert_trip.Given as goal

abbrev pub invariant-loop-len : goal.invariant-loop-len
invariant-loop-len l = TripLeft l.fn.builder (trip_from l.table l.rides l.from) l.builder l.table l.rides l.from l.at l.len l.end
