use Rattle.std.proofs.Common.{◌≡◌, true, map, take}
use Rattle.std.specs.List.{filter}
use Rattle.sgb_combine.specs.Complement.{is_wanted}
use Rattle.sgb_combine.proofs.negate.read_tips.Given as goal

abbrev pub invariant-loop-spoke : goal.invariant-loop-spoke
invariant-loop-spoke l = l.tips.items ≡ filter (is_wanted l.spec l.vertex.0 true) (map (λ s. s.to) (take l.spoke-index l.spokes))
