use Rattle.std.proofs.Common.{◌≡◌, ◌-◌, length}
use Rattle.sgb_graph.proofs.InsertionRuns.{LeftFrom}
use Rattle.sgb_perms.specs.Perms.{exchanges_of}
use Rattle.sgb_perms.proofs.Moves.{move_at}
use Rattle.sgb_perms.proofs.exchanges.insert_to.Given as goal

abbrev pub invariant-loop-place : goal.invariant-loop-place
invariant-loop-place l = record {
  left : LeftFrom l.initial.builder (exchanges_of l.rows.rows l.to.0 l.row) l.builder (move_at l.rows.rows l.to.0 l.row) l.place (length l.row - 1);
  moved : l.moved ≡ l.row;
}
