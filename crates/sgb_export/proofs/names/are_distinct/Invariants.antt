use Rattle.std.proofs.Common.{◌≡◌, true, map}
use Rattle.std.specs.List.{list_all, range_with_len}
use Rattle.sgb_graph.specs.Graph.{label_of}
use Rattle.sgb_export.specs.Edges.{is_new}
use Rattle.sgb_export.proofs.NameIndexes.{shown}
use Rattle.sgb_export.proofs.names.are_distinct.Given as goal

abbrev pub invariant-loop-v : goal.invariant-loop-v
invariant-loop-v l = record {
  new : list_all (is_new l.graph) (range_with_len 0 l.v) ≡ true;
  keys : shown l.names.keys ≡ map (label_of l.graph) (range_with_len 0 l.v);
}
