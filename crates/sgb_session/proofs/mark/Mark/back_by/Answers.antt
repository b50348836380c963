use Rattle.std.proofs.Common.{arith, ap}
use Rattle.sgb_session.proofs.Drawings.{mark_before}
use Rattle.sgb_session.proofs.mark.Mark.back_by.Goals as goal

pub invariant_of-self : goal.invariant_of-self
invariant_of-self c = mark_before _ _ _ _ c.args.draws c.self.invariant (omega (arith, ap (λ d. d.draws) c.self.view_is)) c.back_by.ensures.generator c.back_by.ensures.before
