use Rattle.sgb_shell.proofs.TakenBytes.{Running}
use Rattle.sgb_shell.proofs.script.take_script.Given as goal

abbrev pub invariant-loop-room : goal.invariant-loop-room
invariant-loop-room g l = Running l.initial.reader.left l.reader l.initial.writer.held l.writer l.lines l.room

abbrev pub decreases-loop-room : goal.decreases-loop-room
decreases-loop-room g l = l.room
