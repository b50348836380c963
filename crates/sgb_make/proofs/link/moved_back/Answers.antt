use Rattle.std.proofs.Common.{Some, ap, arith}
use Rattle.sgb_make.proofs.Moves.{back_wrapped}
use Rattle.sgb_make.proofs.link.moved_back.Goals as goal

pub returns-then-side : goal.returns-then-side
returns-then-side c =
    rw c.if-side.true (ap (λ y. Some y) (back_wrapped c.args.x c.args.side.size c.args.by (omega arith)))
