use Rattle.sgb_graph.proofs.InsertionRuns.{LeftFrom}
use Rattle.sgb_simplex.specs.Points.{points}
use Rattle.sgb_simplex.specs.Moves.{moves_to}
use Rattle.sgb_simplex.proofs.MoveInsertions.{moves_if}
use Rattle.sgb_simplex.proofs.moves.insert_moves_to.Given as goal

abbrev pub invariant-loop-j : goal.invariant-loop-j
invariant-loop-j l = LeftFrom l.initial.builder (moves_to (points l.list.total l.list.bounds.items) l.list.bounds.items l.v l.point) l.builder (moves_if (points l.list.total l.list.bounds.items) l.list.bounds.items l.v l.point) l.j l.j-end
