use Rattle.std.specs.List.{flat_map, range_with_len}
use Rattle.sgb_graph.specs.Graph.{n_of}
use Rattle.sgb_graph.proofs.InsertionRuns.{LeftFrom}
use Rattle.sgb_combine.specs.Product.{product_at}
use Rattle.sgb_combine.proofs.multiply.insert_product.Given as goal

abbrev pub invariant-loop-a : goal.invariant-loop-a
invariant-loop-a l =
    LeftFrom l.initial.builder (flat_map (λ a. flat_map (product_at l.spec l.first l.second a) (range_with_len 0 (n_of l.second))) (range_with_len 0 (n_of l.first))) l.builder
    (λ a. flat_map (product_at l.spec l.first l.second a) (range_with_len 0 (n_of l.second))) l.a (n_of l.first)
