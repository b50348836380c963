use Rattle.std.proofs.Common.{◌≤◌, ◌+◌, ◌-◌, min, length, sum}
use Rattle.sgb_perms.specs.Private.Counted.{copies_counted, rows_counted}
use Rattle.sgb_perms.proofs.RowCounts.{LeftToCount}
use Rattle.sgb_perms.proofs.judge.+count_rows.Given as goal

abbrev pub decreases-count_rows : goal.decreases-count_rows
decreases-count_rows l = l.copies + sum l.others.now + length l.others.now

abbrev pub invariant-loop-x : goal.invariant-loop-x
invariant-loop-x l = record {
  left : LeftToCount l.found (λ x. copies_counted (l.copies - 1) (rows_counted l.others l.long) x (l.left - x)) l.count l.x (min l.right l.left + 1);
  few : l.count ≤ 65535;
}
