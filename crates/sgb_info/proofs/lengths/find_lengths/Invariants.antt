use Rattle.std.proofs.Common.{◌≡◌}
use Rattle.std.specs.Int.{int_min, int_max}
use Rattle.std.specs.List.{reduce}
use Rattle.sgb_info.proofs.LengthFolds.{met}
use Rattle.sgb_info.proofs.lengths.find_lengths.Given as goal

abbrev pub invariant-loop-number : goal.invariant-loop-number
invariant-loop-number l = record {
  least : l.least ≡ reduce int_min (met l.graph l.number);
  greatest : l.greatest ≡ reduce int_max (met l.graph l.number);
}
