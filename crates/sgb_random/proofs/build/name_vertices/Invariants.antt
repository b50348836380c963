use Rattle.std.proofs.Common.{map}
use Rattle.std.specs.List.{range_with_len}
use Rattle.sgb_plan.proofs.Plans.{NamesFrom}
use Rattle.sgb_random.specs.Random.{numbered}
use Rattle.sgb_random.proofs.build.name_vertices.Given as goal

abbrev pub invariant-loop-v : goal.invariant-loop-v
invariant-loop-v l = NamesFrom l.initial.builder (map numbered (range_with_len 0 l.n)) l.builder numbered l.v l.n
