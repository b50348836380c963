use Rattle.std.proofs.Common.{◌≡◌, ◌≤◌, length, map, take, vec_len, vec_capacity}
use Rattle.sgb_graph.specs.Private.Lay.{unowned}
use Rattle.sgb_graph.proofs.graph.lay.unowned.Given as goal

abbrev pub invariant-loop-part : goal.invariant-loop-part
invariant-loop-part l = record {
  rows : l.rows.items ≡ map unowned (take l.part-index l.arcs);
  len : vec_len l.rows ≡ l.part-index;
  capacity : length l.arcs ≤ vec_capacity l.rows;
}
