use Rattle.std.proofs.Common.{◌≡◌, true}
use Rattle.std.specs.List.{list_all, range_with_len}
use Rattle.sgb_export.specs.Links.{are_even_at}
use Rattle.sgb_export.proofs.direction.are_even.Given as goal

abbrev pub invariant-loop-v : goal.invariant-loop-v
invariant-loop-v l = list_all (are_even_at l.graph) (range_with_len 0 l.v) ≡ true
