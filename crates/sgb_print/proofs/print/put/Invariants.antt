use Rattle.std.proofs.Common.{length}
use Rattle.sgb_print.proofs.TextPieces.{Writes}
use Rattle.sgb_print.proofs.print.put.Given as goal

abbrev pub invariant-loop-rest : goal.invariant-loop-rest
invariant-loop-rest g l = Writes l.initial.writer l.writer l.bytes l.rest

abbrev pub decreases-loop-rest : goal.decreases-loop-rest
decreases-loop-rest g l = length l.rest
