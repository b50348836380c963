use Rattle.std.proofs.Common.{◌≡◌}
use Rattle.std.specs.List.{flat_map, range_with_len}
use Rattle.sgb_induced.specs.Private.Run.{runs_at}
use Rattle.sgb_induced.proofs.gather.read_runs.Given as goal

abbrev pub invariant-loop-v : goal.invariant-loop-v
invariant-loop-v l = l.runs.items ≡ flat_map (runs_at l.directed l.graph l.images) (range_with_len 0 l.v)
