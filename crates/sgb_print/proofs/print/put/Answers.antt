use Rattle.sgb_print.proofs.TextPieces.{write_took}
use Rattle.sgb_print.proofs.print.put.Goals as goal

pub loop-rest-preserved : goal.loop-rest-preserved
loop-rest-preserved g c = rw c.split_at.ensures.back (write_took c.in_ok-count.count c.loop-rest.invariant c.in_ok-count.ensures.bytes c.in_ok-count.ensures.failed)
