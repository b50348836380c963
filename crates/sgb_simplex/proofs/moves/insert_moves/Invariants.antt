use Rattle.sgb_graph.proofs.InsertionRuns.{LeftFrom}
use Rattle.sgb_simplex.specs.Points.{points}
use Rattle.sgb_simplex.specs.Moves.{moves}
use Rattle.sgb_simplex.proofs.MoveInsertions.{moves_at}
use Rattle.sgb_simplex.proofs.moves.insert_moves.Given as goal

abbrev pub invariant-loop-v : goal.invariant-loop-v
invariant-loop-v l = LeftFrom l.fn.builder (moves (points l.list.total l.list.bounds.items) l.list.bounds.items) l.builder (moves_at (points l.list.total l.list.bounds.items) l.list.bounds.items) l.v l.v-end
