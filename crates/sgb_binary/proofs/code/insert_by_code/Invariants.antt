use Rattle.std.proofs.Common.{length, map}
use Rattle.sgb_graph.proofs.InsertionRuns.{LeftFrom}
use Rattle.sgb_binary.specs.Private.Names.{bytes_of}
use Rattle.sgb_binary.specs.Rotation.{rotations_from, rotations}
use Rattle.sgb_binary.proofs.code.insert_by_code.Given as goal

abbrev pub invariant-loop-v : goal.invariant-loop-v
invariant-loop-v l = LeftFrom l.fn.builder (rotations (map bytes_of l.names)) l.builder (rotations_from (map bytes_of l.names)) l.v (length (map bytes_of l.names))
