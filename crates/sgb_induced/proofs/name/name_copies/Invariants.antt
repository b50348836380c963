use Rattle.std.proofs.Common.{◌+◌, map}
use Rattle.std.specs.List.{range_with_len}
use Rattle.sgb_plan.proofs.Plans.{NamesFrom}
use Rattle.sgb_induced.specs.Image.{copy}
use Rattle.sgb_induced.proofs.name.name_copies.Given as goal

abbrev pub invariant-loop-j : goal.invariant-loop-j
invariant-loop-j l = NamesFrom l.initial.builder (map (copy l.label) (range_with_len 1 l.count)) l.builder (λ j. copy l.label (j + 1)) l.j l.count
