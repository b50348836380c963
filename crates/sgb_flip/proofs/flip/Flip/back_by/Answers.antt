use Rattle.std.proofs.Common.{◌+◌, ◌/◌, ◌%◌, ℕ, arith, refl}
use Rattle.sgb_flip.specs.Generator.{IsGenerator}
use Rattle.sgb_flip.proofs.Draws.{back_batches, before-only, made}
use Rattle.sgb_flip.proofs.flip.Flip.back_by.Goals as goal

pub returns-clause-before : goal.returns-clause-before
returns-clause-before c =
    let n : ℕ = c.args.n in
    let part : ℕ = c.self.inside.unread + n % 55 in
    back_batches c.self.inside.words c.uncycle_by.new.words c.self.inside.unread n part (n / 55 + part / 55) c.args.self.now c.self.view_is c.self.invariant.few refl refl c.uncycle_by.ensures.batch

pub returns-clause-only : goal.returns-clause-only
returns-clause-only c =
    let part : ℕ = c.self.inside.unread + c.args.n % 55 in
    let is : IsGenerator (made c.uncycle_by.new.words (part % 55)) =
    record { count = omega arith; small = c.uncycle_by.ensures.small; few = omega arith }
    in
    before-only (made c.uncycle_by.new.words (part % 55)) c.args.self.now c.args.n is (returns-clause-before c)
