use Rattle.std.proofs.Common.{◌∙◌, arith, ap, sym}
use Rattle.sgb_flip.specs.Generator.{after}
use Rattle.sgb_session.proofs.Drawings.{mark_after}
use Rattle.sgb_session.proofs.mark.Mark.uniform.Goals as goal

pub invariant_of-self : goal.invariant_of-self
invariant_of-self c = mark_after _ _ _ _ c.from.result c.self.invariant
    (c.uniform-drawn.ensures.relation.rest_is ∙ ap (after c.self.inside.flip) (sym c.from.ensures))
    (let few = c.uniform-drawn.ensures.relation.few in omega (arith, ap (λ d. d.draws) c.self.view_is))
