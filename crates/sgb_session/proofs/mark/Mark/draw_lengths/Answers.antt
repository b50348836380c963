use Rattle.std.proofs.Common.{arith, ap}
use Rattle.sgb_session.proofs.Drawings.{mark_after}
use Rattle.sgb_session.proofs.mark.Mark.draw_lengths.Goals as goal

pub invariant_of-self-2 : goal.invariant_of-self-2
invariant_of-self-2 c =
    let few = c.in_ok-delta.ensures.few in
    mark_after _ _ _ _ c.in_ok-delta.drawn c.self.invariant c.in_ok-delta.ensures.rest (omega (arith, few, ap (λ d. d.draws) c.self.view_is))
