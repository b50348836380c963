use Rattle.std.proofs.Common.{◌≡◌, ◌+◌, ◌-◌, length, take, drop}
use Rattle.sgb_simplex.proofs.Written.{LeftToWrite}
use Rattle.sgb_simplex.proofs.list.+list_from.Given as goal

abbrev pub decreases-list_from : goal.decreases-list_from
decreases-list_from l = length l.bounds.now - l.place

abbrev pub invariant-loop-x : goal.invariant-loop-x
invariant-loop-x l = record {
  left : LeftToWrite l.initial.list.items (take l.place l.initial.point) l.left (drop l.place l.bounds) (drop (l.place + 1) l.bounds) l.list.items l.x l.x-end;
  kept : take l.place l.point ≡ take l.place l.initial.point;
}
