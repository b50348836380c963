use Rattle.std.proofs.Common.{refl, ap, arith}
use Rattle.std.proofs.lemmas.List.Sums.{sum_by-le}
use Rattle.std.proofs.Common.{length}
use Rattle.sgb_simplex.proofs.Simplices.{points_none}
use Rattle.sgb_simplex.proofs.judge.count_of.Goals as goal

pub sum_of-room-requires : goal.sum_of-room-requires
sum_of-room-requires c = omega (arith, sum_by-le (λ x. x) 65535 c.args.bounds.now c.requires.bounded, c.requires.narrow)

pub returns-then-total-room-clause-ok : goal.returns-then-total-room-clause-ok
returns-then-total-room-clause-ok c =
    let none = ap length (points_none c.args.total c.args.bounds.now (omega (arith, c.sum_of-room.ensures))) in
    (omega (arith, none), omega arith)

pub returns-then-count-gt65535-clause-err : goal.returns-then-count-gt65535-clause-err
returns-then-count-gt65535-clause-err c = (refl, omega (arith, c.count_from-count.ensures))

pub returns-clause-ok : goal.returns-clause-ok
returns-clause-ok c = (omega (arith, c.count_from-count.ensures), omega arith)
