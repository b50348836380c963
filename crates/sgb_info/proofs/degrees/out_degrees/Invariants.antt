use Rattle.std.proofs.Common.{◌≡◌, map}
use Rattle.std.specs.List.{range_with_len}
use Rattle.sgb_info.specs.Degrees.{out_degree}
use Rattle.sgb_info.proofs.degrees.out_degrees.Given as goal

abbrev pub invariant-loop-v : goal.invariant-loop-v
invariant-loop-v l = l.degrees.items ≡ map (out_degree l.graph) (range_with_len 0 l.v)
