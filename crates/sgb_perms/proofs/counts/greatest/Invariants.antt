use Rattle.std.proofs.Common.{◌≡◌, ◌≤◌, ◌+◌, ◌*◌, take, drop, sum}
use Rattle.sgb_perms.specs.Arrangement.{greatest_from}
use Rattle.sgb_perms.proofs.counts.greatest.Given as goal

abbrev pub invariant-loop-count : goal.invariant-loop-count
invariant-loop-count l = record {
  counted : l.smaller ≡ sum (take l.count-index l.counts);
  all : l.inversions + greatest_from l.smaller (drop l.count-index l.counts) ≡ greatest_from 0 l.counts;
  small : l.inversions ≤ 255 * l.smaller;
}
