use Rattle.std.proofs.Common.{◌≤◌, ◌+◌, ◌-◌, length, drop}
use Rattle.sgb_simplex.proofs.PointCounts.{LeftToCount}
use Rattle.sgb_simplex.proofs.judge.+count_from.Given as goal

abbrev pub decreases-count_from : goal.decreases-count_from
decreases-count_from l = length l.bounds.now - l.place

abbrev pub invariant-loop-x : goal.invariant-loop-x
invariant-loop-x l = record {
  left : LeftToCount l.found l.left (drop l.place l.bounds) (drop (l.place + 1) l.bounds) l.count l.x l.x-end;
  few : l.count ≤ 65535;
}
