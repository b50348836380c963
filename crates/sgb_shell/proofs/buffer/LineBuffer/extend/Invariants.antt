use Rattle.std.proofs.Common.{◌≡◌, ◌++◌, ℕ, List, take}
use Rattle.sgb_shell.specs.Private.Holding.{held_line}
use Rattle.sgb_shell.proofs.buffer.LineBuffer.extend.Given as goal

abbrev pub invariant-loop-byte : goal.invariant-loop-byte
invariant-loop-byte l = (line : List ℕ) → l.initial.self ≡ held_line line → l.self ≡ held_line (line ++ take l.byte-index l.bytes)
