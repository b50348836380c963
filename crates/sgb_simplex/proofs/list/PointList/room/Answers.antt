use Rattle.std.proofs.Common.{ap, arith}
use Rattle.std.specs.List.{sum}
use Rattle.std.proofs.lemmas.List.Sums.{sum_by-le}
use Rattle.sgb_simplex.proofs.list.PointList.room.Goals as goal

pub sum_of-requires : goal.sum_of-requires
sum_of-requires c =
    let self = c.args.self.now in
    omega (arith, ap sum c.deref.ensures.value, sum_by-le (λ x. x) 65535 self.bounds.items self.bounded, self.narrow, self.bounds.ok.0)
