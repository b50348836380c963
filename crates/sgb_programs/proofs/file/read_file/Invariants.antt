use Rattle.sgb_programs.proofs.FileReads.{Reading}
use Rattle.sgb_programs.proofs.file.read_file.Given as goal

abbrev pub invariant-loop-room : goal.invariant-loop-room
invariant-loop-room g l = Reading l.limit l.initial.reader l.reader l.file.items l.room

abbrev pub decreases-loop-room : goal.decreases-loop-room
decreases-loop-room g l = l.room
