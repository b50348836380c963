use Rattle.std.proofs.Common.{drop}
use Rattle.std.specs.List.{flat_map, range_with_len}
use Rattle.sgb_graph.specs.Graph.{n_of}
use Rattle.sgb_print.specs.Show.{vertex_text}
use Rattle.sgb_print.proofs.TextPieces.{Writes}
use Rattle.sgb_print.proofs.show.print_vertices.Given as goal

abbrev pub invariant-loop-v : goal.invariant-loop-v
invariant-loop-v g l = Writes l.initial.writer l.writer
    (flat_map (vertex_text l.graph) (range_with_len 0 (n_of l.graph))) (flat_map (vertex_text l.graph) (drop l.v (range_with_len 0 (n_of l.graph))))
