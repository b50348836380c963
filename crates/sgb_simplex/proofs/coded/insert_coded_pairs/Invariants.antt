use Rattle.sgb_graph.proofs.InsertionRuns.{LeftFrom}
use Rattle.sgb_simplex.specs.Points.{points}
use Rattle.sgb_simplex.specs.Overlap.{pairs, pairs_to}
use Rattle.sgb_simplex.proofs.coded.insert_coded_pairs.Given as goal

abbrev pub invariant-loop-v : goal.invariant-loop-v
invariant-loop-v l = LeftFrom l.initial.builder (pairs (points l.list.total l.list.bounds.items) l.size_bits) l.builder (pairs_to (points l.list.total l.list.bounds.items) l.size_bits) l.v l.v-end
