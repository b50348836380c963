use Rattle.std.proofs.Common.{refl, arith}
use Rattle.std.proofs.Math.Nat.{mul-le-mul_left}
use Rattle.sgb_perms.specs.Private.Rows.{pieces}
use Rattle.sgb_perms.proofs.rows.Rows.with_capacity.Goals as goal

pub overflow_mul-elements : goal.overflow_mul-elements
overflow_mul-elements c = omega (arith, mul-le-mul_left c.args.width c.requires.count, c.requires.width)

pub returns : goal.returns
unfolding pieces
returns c = refl
