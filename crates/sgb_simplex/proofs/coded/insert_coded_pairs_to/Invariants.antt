use Rattle.std.proofs.Common.{◌+◌}
use Rattle.sgb_graph.proofs.InsertionRuns.{LeftFrom}
use Rattle.sgb_simplex.specs.Points.{points}
use Rattle.sgb_simplex.specs.Overlap.{pairs_to}
use Rattle.sgb_simplex.proofs.MoveInsertions.{pair_of}
use Rattle.sgb_simplex.proofs.coded.insert_coded_pairs_to.Given as goal

abbrev pub invariant-loop-u : goal.invariant-loop-u
invariant-loop-u l = LeftFrom l.initial.builder (pairs_to (points l.list.total l.list.bounds.items) l.size_bits l.v) l.builder (pair_of (points l.list.total l.list.bounds.items) l.size_bits l.v) l.u (l.v + 1)
