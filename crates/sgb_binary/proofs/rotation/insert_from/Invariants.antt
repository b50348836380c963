use Rattle.std.proofs.Common.{◌≡◌, length}
use Rattle.sgb_graph.proofs.InsertionRuns.{LeftFrom}
use Rattle.sgb_binary.specs.Rotation.{rotations_at, rotations_of}
use Rattle.sgb_binary.proofs.NameIndexes.{names_of}
use Rattle.sgb_binary.proofs.rotation.insert_from.Given as goal

abbrev pub invariant-loop-place : goal.invariant-loop-place
invariant-loop-place l = record {
  left : LeftFrom l.initial.builder (rotations_of (names_of l.index.keys) l.v l.initial.word) l.builder (rotations_at (names_of l.index.keys) l.v l.initial.word) l.place (length l.initial.word);
  word : l.word ≡ l.initial.word;
}
