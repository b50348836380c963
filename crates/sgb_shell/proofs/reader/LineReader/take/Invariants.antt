use Rattle.std.proofs.Common.{◌≡◌, ◌<◌, ◌≤◌, ◌^◌, ◌-◌, ◌++◌, List, ℕ, Option, length, take}
use Rattle.sgb_shell.specs.Private.Reaching.{Progress}
use Rattle.sgb_shell.proofs.reader.LineReader.take.Given as goal

abbrev pub invariant-loop-done : goal.invariant-loop-done
invariant-loop-done g l = (l.done ≤ length l.bytes) × ((held : Option (List ℕ)) (script : List ℕ) → length (script ++ l.bytes) < 2 ^ 32
    → Progress held l.initial.writer.held script l.initial.self
    → Progress held l.writer.held (script ++ take l.done l.bytes) l.self × (l.writer.failed ≡ l.initial.writer.failed))

abbrev pub decreases-loop-done : goal.decreases-loop-done
decreases-loop-done g l = length l.bytes - l.done
