use Rattle.std.proofs.Common.{◌≡◌, ◌≤◌, length, drop, All, false}
use Rattle.std.specs.List.{flat_map, range_with_len}
use Rattle.sgb_graph.specs.Graph.{n_of}
use Rattle.sgb_export.specs.Links.{links_at}
use Rattle.sgb_export.specs.Simple.{are_simple, is_simple}
use Rattle.sgb_export.proofs.simple.is_simple.Given as goal

abbrev pub invariant-loop-v : goal.invariant-loop-v
invariant-loop-v l = record {
  same : is_simple l.graph ≡ are_simple (flat_map (links_at false l.graph) (drop l.v (range_with_len 0 (n_of l.graph))));
  count : length l.marks.items ≡ n_of l.graph;
  low : All (λ m. m ≤ l.v) l.marks.items;
}
