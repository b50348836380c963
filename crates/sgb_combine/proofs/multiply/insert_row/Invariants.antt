use Rattle.std.specs.List.{flat_map, range_with_len}
use Rattle.sgb_graph.specs.Graph.{n_of}
use Rattle.sgb_graph.proofs.InsertionRuns.{LeftFrom}
use Rattle.sgb_combine.specs.Private.Pruned.{pruned_at}
use Rattle.sgb_combine.proofs.multiply.insert_row.Given as goal

abbrev pub invariant-loop-b : goal.invariant-loop-b
invariant-loop-b l =
    LeftFrom l.initial.builder (flat_map (pruned_at l.spec l.second l.a l.from l.above) (range_with_len 0 (n_of l.second))) l.builder
    (pruned_at l.spec l.second l.a l.from l.above) l.b (n_of l.second)
