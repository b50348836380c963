use Rattle.std.proofs.Common.{◌≡◌, map, take}
use Rattle.std.specs.List.{range_with_len}
use Rattle.sgb_plan.specs.Listing.{listed_at}
use Rattle.sgb_simplex.proofs.listing.list_within.Given as goal

abbrev pub invariant-loop-i : goal.invariant-loop-i
invariant-loop-i l = take l.i l.places ≡ map (listed_at l.numbers) (range_with_len 0 l.i)
