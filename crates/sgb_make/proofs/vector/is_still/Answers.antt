use Rattle.std.proofs.Common.{◌≡◌, ◌/◌, ◌%◌, inr, arith}
use Rattle.std.proofs.lemmas.Bool.{eqb-true}
use Rattle.std.proofs.lemmas.Nat.{div-add-mod'}
use Rattle.sgb_make.proofs.vector.is_still.Goals as goal

pub returns-then-known : goal.returns-then-known
returns-then-known c =
    λ even.
    let none : c.args.part % c.args.side.size ≡ 0 = eqb-true (c.args.part % c.args.side.size) 0 even in
    let whole = div-add-mod' c.args.part c.args.side.size in
    inr (c.if-known.true, (c.args.part / c.args.side.size, omega (arith, none, whole)))
