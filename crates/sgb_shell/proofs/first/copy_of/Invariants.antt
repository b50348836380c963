use Rattle.std.proofs.Common.{◌≡◌, take}
use Rattle.sgb_shell.proofs.first.copy_of.Given as goal

abbrev pub invariant-loop-byte : goal.invariant-loop-byte
invariant-loop-byte l = l.bytes.items ≡ take l.byte-index l.front
