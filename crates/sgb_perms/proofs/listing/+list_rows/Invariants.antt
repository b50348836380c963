use Rattle.std.proofs.Common.{◌≡◌, ◌+◌, ◌-◌, min, length, sum}
use Rattle.sgb_perms.specs.Private.Listed.{placed, copies_from, rows_from}
use Rattle.sgb_perms.proofs.Runs.{RowsFrom}
use Rattle.sgb_perms.proofs.listing.+list_rows.Given as goal

abbrev pub decreases-list_rows : goal.decreases-list_rows
decreases-list_rows l = l.copies + sum l.others.now + length l.others.now

abbrev pub invariant-loop-x : goal.invariant-loop-x
invariant-loop-x l = record {
  rows : RowsFrom l.initial.rows l.rows (λ x. copies_from (l.copies - 1) l.kind (rows_from (l.kind + 1) l.others) x (l.left - x) (placed l.initial.row.items l.kind x)) l.x (min l.right l.left + 1);
  row : l.row.items ≡ l.initial.row.items;
}
