use Rattle.std.proofs.Common.{◌≡◌, map, take}
use Rattle.std.specs.List.{range_with_len}
use Rattle.sgb_induced.specs.Image.{leader}
use Rattle.sgb_induced.specs.Private.Run.{IsLed}
use Rattle.sgb_induced.proofs.image.find_leaders.Given as goal

abbrev pub invariant-loop-v : goal.invariant-loop-v
invariant-loop-v l = record {
  leaders : l.leaders.items ≡ map (leader l.fates) (range_with_len 0 l.v);
  led : IsLed l.classes (take l.v l.fates);
}
