use Rattle.std.proofs.Common.{◌≡◌, ◌<◌, length, get_or}
use Rattle.sgb_info.specs.Private.Forest.{IsForest, roots}
use Rattle.sgb_info.proofs.classes.climb.Given as goal

abbrev pub invariant-loop-parents : goal.invariant-loop-parents
invariant-loop-parents l = record {
  forest : IsForest l.parents;
  within : l.number < length l.parents;
  same : roots l.parents ≡ roots l.initial.parents;
  root : get_or (roots l.initial.parents) l.number 0 ≡ get_or (roots l.initial.parents) l.initial.number 0;
}

abbrev pub decreases-loop-parents : goal.decreases-loop-parents
decreases-loop-parents l = l.number
