use Rattle.std.proofs.Common.{◌≡◌, drop}
use Rattle.sgb_binary.specs.Private.Code.{code_of}
use Rattle.sgb_binary.proofs.code.code_of.Given as goal

abbrev pub invariant-loop-place : goal.invariant-loop-place
invariant-loop-place l = l.code ≡ code_of (drop l.place l.word)
