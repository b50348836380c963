use Rattle.std.proofs.Common.{◌≤◌, All, sym, subst}
use Rattle.sgb_simplex.proofs.Fronts.{bounds_below}
use Rattle.sgb_simplex.proofs.generate.list_points.Goals as goal

pub count_of-requires-clause-bounded : goal.count_of-requires-clause-bounded
count_of-requires-clause-bounded c = subst (All (λ b. b ≤ 65535)) (sym c.in_ok-width.ensures.list) (bounds_below c.in_ok-total.total c.args.numbers.now c.in_ok-total.ensures.small)

pub new-requires-clause-bounded : goal.new-requires-clause-bounded
new-requires-clause-bounded c = subst (All (λ b. b ≤ 65535)) (sym c.in_ok-width.ensures.list) (bounds_below c.in_ok-total.total c.args.numbers.now c.in_ok-total.ensures.small)
