use Rattle.std.proofs.Common.{◌≡◌, ◌<◌, ◌+◌, ◌-◌, ℕ, length, get_or, drop, Vec}
use Rattle.std.specs.declared.alloc.Global.{Global}
use Rattle.sgb_simplex.specs.Private.Counts.{IsRow}
use Rattle.sgb_simplex.proofs.counts.count_rows.Given as goal

abbrev pub invariant-loop-behind : goal.invariant-loop-behind
invariant-loop-behind l = record {
  long : length l.rows.items ≡ l.behind + 1;
  at : (k : ℕ) (d : Vec ℕ Global) → k < length l.rows.items → IsRow (drop (length l.bounds - k) l.bounds) l.total (get_or l.rows.items k d).items;
}
