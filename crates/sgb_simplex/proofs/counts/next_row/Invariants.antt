use Rattle.std.proofs.Common.{◌≡◌, ◌≤◌, ◌+◌, ◌*◌, ℕ, length, drop}
use Rattle.std.specs.List.{slice_index}
use Rattle.sgb_simplex.specs.Private.Counts.{counted_below}
use Rattle.sgb_simplex.proofs.counts.next_row.Given as goal

abbrev pub invariant-loop-s : goal.invariant-loop-s
invariant-loop-s l = record {
  sum : l.sum ≡ counted_below (drop l.place l.bounds) l.s;
  small : l.sum ≤ l.s * 65536;
  long : length l.next.items ≡ l.s + 1;
  at : (k : ℕ) → k ≤ l.s → slice_index l.next.items k ≡ counted_below (drop l.place l.bounds) k;
}
