use Rattle.std.proofs.Common.{◌≡◌, ◌≤◌, length}
use Rattle.sgb_info.specs.Private.Classes.{least_below}
use Rattle.sgb_info.proofs.classes.Classes.count.Given as goal

abbrev pub invariant-loop-v : goal.invariant-loop-v
invariant-loop-v l = record {
  value : l.count ≡ length (least_below l.self l.v);
  few : l.count ≤ l.v;
}
