use Rattle.std.proofs.Common.{◌++◌, ℤ, ap, ◌∙◌, arith, to_z, of_z}
use Rattle.std.specs.Int.{w64}
use Rattle.std.proofs.lemmas.Int.{to_z-of_z}
use Rattle.sgb_make.specs.Board.{sides_of}
use Rattle.sgb_make.proofs.Volumes.{sides_from, sides_more, sides_end}
use Rattle.sgb_make.proofs.sizes.sides_of.Goals as goal

pub loop-k-init : goal.loop-k-init
loop-k-init c = ap (λ xs. xs ++ sides_from (to_z w64 (of_z w64 c.args.wrap)) 0 c.args.sizes.now) c.in_ok-sides.ensures.items

pub loop-k-preserved : goal.loop-k-preserved
loop-k-preserved c =
    let wrap : ℤ = to_z w64 (of_z w64 c.args.wrap) in
    sides_more wrap c.args.sizes.now c.loop-k.sides.items c.push.new.self.items (sides_of wrap c.args.sizes.now) c.loop-k.k c.has_bit.result (omega arith) c.loop-k.invariant c.has_bit.ensures c.in_ok-push.ensures.items

pub returns : goal.returns
returns c =
    let wrap : ℤ = to_z w64 (of_z w64 c.args.wrap) in
    sides_end wrap c.args.sizes.now c.loop-k.sides.items (sides_of wrap c.args.sizes.now) c.loop-k.k (omega arith) c.loop-k.invariant
    ∙ ap (λ z. sides_of z c.args.sizes.now) (to_z-of_z w64 c.args.wrap c.ranges.wrap)
