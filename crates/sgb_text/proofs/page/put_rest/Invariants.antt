use Rattle.std.proofs.Common.{length}
use Rattle.sgb_text.proofs.Cuts.{Cutting}
use Rattle.sgb_text.proofs.page.put_rest.Given as goal

abbrev pub invariant-loop-rest : goal.invariant-loop-rest
invariant-loop-rest l = Cutting l.initial.text.items l.text.items l.bytes l.rest l.end

abbrev pub decreases-loop-rest : goal.decreases-loop-rest
decreases-loop-rest l = length l.rest
