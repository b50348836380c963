use Rattle.std.proofs.Common.{length}
use Rattle.sgb_graph.proofs.InsertionRuns.{LeftFrom}
use Rattle.sgb_binary.specs.Rotation.{rotations_from, rotations}
use Rattle.sgb_binary.proofs.NameIndexes.{names_of}
use Rattle.sgb_binary.proofs.rotation.insert_by_name.Given as goal

abbrev pub invariant-loop-v : goal.invariant-loop-v
invariant-loop-v l = LeftFrom l.fn.builder (rotations (names_of l.index.keys)) l.builder (rotations_from (names_of l.index.keys)) l.v (length (names_of l.index.keys))
