use Rattle.std.proofs.Common.{◌≡◌, length, take}
use Rattle.sgb_combine.specs.Lowest.{lowest}
use Rattle.sgb_combine.proofs.lowest.Lowest.keep.Given as goal

abbrev pub invariant-loop-spoke : goal.invariant-loop-spoke
invariant-loop-spoke l = record {
  met : l.self.spokes.items ≡ lowest (take l.spoke-index l.spokes);
  width : length l.self.places.items ≡ length l.initial.self.places.items;
}
