use Rattle.std.proofs.Common.{◌+◌, map}
use Rattle.std.specs.List.{range_with_len}
use Rattle.sgb_plan.proofs.Plans.{NamesFrom}
use Rattle.sgb_import.proofs.OutlineGraphs.{number_name}
use Rattle.sgb_import.proofs.outline.name_by_numbers.Given as goal

abbrev pub invariant-loop-v : goal.invariant-loop-v
invariant-loop-v l = NamesFrom l.fn.builder (map number_name (range_with_len l.first l.count)) l.builder number_name l.v (l.first + l.count)
