use Rattle.std.proofs.Common.{◌≡◌, ◌≤◌, ◌<◌, ◌+◌, ◌*◌, length, All}
use Rattle.std.specs.List.{range_with_len, sum_by}
use Rattle.sgb_graph.specs.Graph.{n_of, occurrences}
use Rattle.sgb_export.specs.Links.{links_at}
use Rattle.sgb_info.specs.Repeats.{tips, repeats}
use Rattle.sgb_info.proofs.repeats.count_edges.Given as goal

abbrev pub invariant-loop-v : goal.invariant-loop-v
invariant-loop-v l = record {
  count : l.count ≡ sum_by (λ v. length (links_at l.directed l.graph v)) (range_with_len 0 l.v);
  loops : l.loops ≡ sum_by (λ v. occurrences v (tips l.directed l.graph v)) (range_with_len 0 l.v);
  repeated : l.repeated ≡ sum_by (λ v. repeats (tips l.directed l.graph v)) (range_with_len 0 l.v);
  few_count : l.count ≤ l.v * 1000000;
  few_loops : l.loops ≤ l.v * 1000000;
  few_repeated : l.repeated ≤ l.v * 1000000;
  width : length l.last.items ≡ n_of l.graph;
  before : All (λ t. t < l.v + 1) l.last.items;
}
