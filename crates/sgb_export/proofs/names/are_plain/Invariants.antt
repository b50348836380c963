use Rattle.std.proofs.Common.{◌≡◌, true}
use Rattle.std.specs.List.{list_all, range_with_len}
use Rattle.sgb_graph.specs.Graph.{label_of}
use Rattle.sgb_export.specs.Edges.{is_plain}
use Rattle.sgb_export.proofs.names.are_plain.Given as goal

abbrev pub invariant-loop-v : goal.invariant-loop-v
invariant-loop-v l = list_all (λ v. is_plain (label_of l.graph v)) (range_with_len 0 l.v) ≡ true
