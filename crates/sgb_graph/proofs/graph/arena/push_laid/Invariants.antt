use Rattle.std.proofs.Common.{◌≡◌, ◌+◌, ◌++◌, map, take, vec_len, vec_capacity}
use Rattle.sgb_graph.specs.Private.Lay.{laid_cell}
use Rattle.sgb_graph.proofs.graph.arena.push_laid.Given as goal

abbrev pub invariant-loop-row : goal.invariant-loop-row
invariant-loop-row l = record {
  cells : l.cells.items ≡ l.fn.cells.items ++ map laid_cell (take l.row-index l.rows);
  len : vec_len l.cells ≡ vec_len l.fn.cells + l.row-index;
  capacity : vec_capacity l.cells ≡ vec_capacity l.fn.cells;
}
