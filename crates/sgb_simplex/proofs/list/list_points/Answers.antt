use Rattle.std.proofs.Common.{sym, ap, ◌∙◌, arith}
use Rattle.std.specs.List.{flat_map}
use Rattle.std.proofs.lemmas.List.Sums.{sum_by-le}
use Rattle.sgb_simplex.proofs.Simplices.{points_none}
use Rattle.sgb_simplex.proofs.list.list_points.Goals as goal

pub sum_of-room-requires : goal.sum_of-room-requires
sum_of-room-requires c = omega (arith, sum_by-le (λ x. x) 65535 c.args.bounds.now c.requires.bounded)

pub returns-then-total-room : goal.returns-then-total-room
returns-then-total-room c =
    c.in_ok-list.ensures.items ∙ sym (ap (flat_map (λ t. t)) (points_none c.args.total c.args.bounds.now (omega (arith, c.sum_of-room.ensures))))
