use Rattle.std.proofs.Common.{◌≡◌, ◌++◌}
use Rattle.std.specs.List.{flat_map, range_with_len}
use Rattle.sgb_make.specs.Ride.{moved}
use Rattle.sgb_make.specs.Private.Link.{part_of, row_of}
use Rattle.sgb_make.proofs.link.append_rows.Given as goal

abbrev pub invariant-loop-x : goal.invariant-loop-x
invariant-loop-x l =
    l.table.items ≡ l.initial.table.items ++ flat_map (λ x. row_of (moved l.side x (part_of l.step)) l.behind) (range_with_len 0 l.x)
