use Rattle.std.proofs.Common.{◌≡◌, ◌≤◌, ◌+◌, ◌*◌, length, drop}
use Rattle.std.specs.List.{flat_map, range_with_len}
use Rattle.sgb_graph.specs.Graph.{n_of}
use Rattle.sgb_export.specs.Links.{links, links_at}
use Rattle.sgb_export.proofs.count.count_links.Given as goal

abbrev pub invariant-loop-v : goal.invariant-loop-v
invariant-loop-v l = record {
  total : l.count + length (flat_map (links_at l.directed l.graph) (drop l.v (range_with_len 0 (n_of l.graph)))) ≡ length (links l.directed l.graph);
  few : l.count ≤ l.v * 1000000;
}
