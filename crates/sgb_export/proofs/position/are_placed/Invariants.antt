use Rattle.std.proofs.Common.{◌≡◌, true}
use Rattle.std.specs.List.{list_all, range_with_len}
use Rattle.sgb_export.specs.Dot.{is_placed}
use Rattle.sgb_export.proofs.position.are_placed.Given as goal

abbrev pub invariant-loop-v : goal.invariant-loop-v
invariant-loop-v l = list_all (is_placed l.graph) (range_with_len 0 l.v) ≡ true
