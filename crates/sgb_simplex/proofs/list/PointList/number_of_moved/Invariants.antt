use Rattle.sgb_simplex.specs.Moves.{lowered, raised}
use Rattle.sgb_simplex.proofs.Walks.{Walks}
use Rattle.sgb_simplex.proofs.list.PointList.number_of_moved.Given as goal

abbrev pub invariant-loop-i : goal.invariant-loop-i
invariant-loop-i l = Walks l.self.total l.self.bounds.items (raised (lowered l.point l.j) l.k) l.number l.left l.i
