use Rattle.std.proofs.Common.{length, map}
use Rattle.sgb_graph.proofs.InsertionRuns.{LeftFrom}
use Rattle.sgb_binary.specs.Private.Names.{bytes_of}
use Rattle.sgb_binary.specs.Rotation.{rotations_at, rotations_of}
use Rattle.sgb_binary.proofs.code.insert_from_code.Given as goal

abbrev pub invariant-loop-place : goal.invariant-loop-place
invariant-loop-place l =
    LeftFrom l.initial.builder (rotations_of (map bytes_of l.names) l.v l.word) l.builder (rotations_at (map bytes_of l.names) l.v l.word) l.place (length l.word)
