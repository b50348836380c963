use Rattle.std.proofs.Common.{map}
use Rattle.std.specs.List.{range_with_len}
use Rattle.sgb_graph.specs.Graph.{n_of}
use Rattle.sgb_plan.proofs.Plans.{NamesFrom}
use Rattle.sgb_combine.specs.Product.{pair_name}
use Rattle.sgb_combine.proofs.pairs.name_row.Given as goal

abbrev pub invariant-loop-b : goal.invariant-loop-b
invariant-loop-b l =
    NamesFrom l.initial.builder (map (pair_name l.first l.second l.a.0) (range_with_len 0 (n_of l.second))) l.builder (pair_name l.first l.second l.a.0) l.b (n_of l.second)
