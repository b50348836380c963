use Rattle.std.proofs.Common.{◌≡◌, ◌≤◌, length, drop, All}
use Rattle.std.specs.List.{flat_map, range_with_len}
use Rattle.sgb_graph.specs.Graph.{n_of}
use Rattle.sgb_print.proofs.TextPieces.{Writes}
use Rattle.sgb_export.specs.Graph6.{column, is_joined, packed, triangle}
use Rattle.sgb_export.specs.Private.Packing.{IsSix}
use Rattle.sgb_export.proofs.PackedBits.{packed_from}
use Rattle.sgb_export.proofs.graph6.put_columns.Given as goal

abbrev pub invariant-loop-v : goal.invariant-loop-v
invariant-loop-v g l = record {
  bits : Writes l.initial.writer l.writer (packed (triangle (n_of l.graph) (is_joined l.graph)))
      (packed_from l.six (flat_map (column (is_joined l.graph)) (drop l.v (range_with_len 0 (n_of l.graph)))));
  six : IsSix l.six;
  count : length l.marks ≡ n_of l.graph;
  low : All (λ m. m ≤ l.v) l.marks;
}
