use Rattle.std.proofs.Common.{◌≡◌, map}
use Rattle.std.specs.List.{range_with_len}
use Rattle.sgb_induced.specs.Fate.{fate_at}
use Rattle.sgb_induced.proofs.fate.read_fates.Given as goal

abbrev pub invariant-loop-v : goal.invariant-loop-v
invariant-loop-v l = l.fates.items ≡ map (fate_at l.graph) (range_with_len 0 l.v)
