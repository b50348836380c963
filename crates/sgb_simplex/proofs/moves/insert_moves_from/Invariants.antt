use Rattle.sgb_graph.proofs.InsertionRuns.{LeftFrom}
use Rattle.sgb_simplex.specs.Points.{points}
use Rattle.sgb_simplex.proofs.MoveInsertions.{moves_if, move_if}
use Rattle.sgb_simplex.proofs.moves.insert_moves_from.Given as goal

abbrev pub invariant-loop-k : goal.invariant-loop-k
invariant-loop-k l = LeftFrom l.initial.builder (moves_if (points l.list.total l.list.bounds.items) l.list.bounds.items l.v l.point l.j) l.builder (move_if (points l.list.total l.list.bounds.items) l.list.bounds.items l.v l.point l.j) l.k l.k-end
