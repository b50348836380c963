use Rattle.std.proofs.Common.{◌-◌, ◌∙◌, ap, arith, get_or}
use Rattle.sgb_flip.specs.declared.flip.Flip.TheInside.{Inside}
use Rattle.sgb_flip.proofs.Draws.{made, next_read, next_refilled}
use Rattle.sgb_flip.proofs.flip.Flip.next.Goals as goal
use Rattle.sgb_flip.proofs.flip.Flip.next.Goals.{then-self-eq0, else-self-eq0}

pub returns-clause-number : goal.returns-clause-number
returns-clause-number c =
    elim c.if-self-eq0.branch [
      | then-self-eq0 w ↦
          ap (λ (i : Inside). get_or i.words (i.unread - 1) 0) w.self-inside-is
          ∙ (next_refilled c.self.inside.words _ c.self.inside.unread c.args.self.now c.self.view_is w.if-self-eq0.true w.cycle.ensures.batch).0
      | else-self-eq0 w ↦
          ap (λ (i : Inside). get_or i.words (i.unread - 1) 0) w.self-inside-is
          ∙ (next_read c.self.inside.words c.self.inside.unread c.args.self.now c.self.view_is c.self.invariant.count (omega arith) c.self.invariant.few).0
    ]

pub returns-clause-rest : goal.returns-clause-rest
returns-clause-rest c =
    elim c.if-self-eq0.branch [
      | then-self-eq0 w ↦
          ap (λ (i : Inside). made i.words (i.unread - 1)) w.self-inside-is
          ∙ (next_refilled c.self.inside.words _ c.self.inside.unread c.args.self.now c.self.view_is w.if-self-eq0.true w.cycle.ensures.batch).1
      | else-self-eq0 w ↦
          ap (λ (i : Inside). made i.words (i.unread - 1)) w.self-inside-is
          ∙ (next_read c.self.inside.words c.self.inside.unread c.args.self.now c.self.view_is c.self.invariant.count (omega arith) c.self.invariant.few).1
    ]
