use Rattle.std.proofs.Common.{arith, ap}
use Rattle.sgb_session.proofs.Drawings.{mark_after}
use Rattle.sgb_session.proofs.mark.Mark.next.Goals as goal

pub invariant_of-self : goal.invariant_of-self
invariant_of-self c = mark_after _ _ _ _ 1 c.self.invariant c.next.ensures.rest (omega (arith, ap (λ d. d.draws) c.self.view_is))
