use Rattle.std.proofs.Common.{◌≡◌, drop}
use Rattle.sgb_perms.specs.Private.Places.{word_of}
use Rattle.sgb_perms.proofs.places.word_of.Given as goal

abbrev pub invariant-loop-place : goal.invariant-loop-place
invariant-loop-place l = l.word ≡ word_of (drop l.place l.row)
