use Rattle.std.proofs.Common.{◌≤◌, ◌*◌, drop}
use Rattle.std.specs.List.{flat_map, range_with_len}
use Rattle.sgb_graph.specs.Graph.{n_of}
use Rattle.sgb_print.proofs.TextPieces.{Writes}
use Rattle.sgb_export.specs.Links.{links, links_at}
use Rattle.sgb_export.specs.Text.{links_text}
use Rattle.sgb_export.proofs.write.put_links.Given as goal

abbrev pub invariant-loop-v : goal.invariant-loop-v
invariant-loop-v g l = record {
  lines : Writes l.initial.writer l.writer (links_text l.format l.directed l.graph 0 (links l.directed l.graph))
      (links_text l.format l.directed l.graph l.count (flat_map (links_at l.directed l.graph) (drop l.v (range_with_len 0 (n_of l.graph)))));
  few : l.count ≤ l.v * 1000000;
}
