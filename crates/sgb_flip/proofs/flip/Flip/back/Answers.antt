use Rattle.std.proofs.Common.{◌+◌, ◌<◌, arith}
use Rattle.sgb_flip.specs.Generator.{IsGenerator}
use Rattle.sgb_flip.proofs.Draws.{back_read, back_refilled, before-only, made}
use Rattle.sgb_flip.proofs.flip.Flip.back.Goals as goal

pub returns-then-self-eq54-clause-before : goal.returns-then-self-eq54-clause-before
returns-then-self-eq54-clause-before c =
    back_refilled c.self.inside.words c.uncycle.new.words c.self.inside.unread c.args.self.now c.self.view_is c.if-self-eq54.true c.uncycle.ensures.batch

pub returns-then-self-eq54-clause-only : goal.returns-then-self-eq54-clause-only
returns-then-self-eq54-clause-only c =
    let is : IsGenerator (made c.uncycle.new.words 0) =
    record { count = omega arith; small = c.uncycle.ensures.small; few = omega arith }
    in
    before-only (made c.uncycle.new.words 0) c.args.self.now 1 is (returns-then-self-eq54-clause-before c)

pub returns-else-self-eq54-clause-before : goal.returns-else-self-eq54-clause-before
returns-else-self-eq54-clause-before c =
    let few : c.self.inside.unread < 54 = omega (arith, c.self.invariant.few) in
    back_read c.self.inside.words c.self.inside.unread c.args.self.now c.self.view_is c.self.invariant.count few

pub returns-else-self-eq54-clause-only : goal.returns-else-self-eq54-clause-only
returns-else-self-eq54-clause-only c =
    let few : c.self.inside.unread + 1 < 55 = omega (arith, c.self.invariant.few) in
    let is : IsGenerator (made c.self.inside.words (c.self.inside.unread + 1)) =
    record { count = c.self.invariant.count; small = c.self.invariant.small; few = few }
    in
    before-only (made c.self.inside.words (c.self.inside.unread + 1)) c.args.self.now 1 is (returns-else-self-eq54-clause-before c)
