use Rattle.std.proofs.Common.{length}
use Rattle.sgb_graph.proofs.InsertionRuns.{LeftFrom}
use Rattle.sgb_make.specs.Private.Link.{trip_from, trips}
use Rattle.sgb_make.proofs.ride.insert_trips.Given as goal

abbrev pub invariant-loop-from : goal.invariant-loop-from
invariant-loop-from l = LeftFrom l.fn.builder (trips l.table l.rides) l.builder (trip_from l.table l.rides) l.from (length l.table)
