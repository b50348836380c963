use Rattle.std.proofs.Common.{◌≡◌, ◌≤◌, take, sum}
use Rattle.sgb_perms.proofs.counts.are_few.Given as goal

abbrev pub invariant-loop-count : goal.invariant-loop-count
invariant-loop-count l = (l.elements ≡ sum (take l.count-index l.counts)) × (l.elements ≤ 255)
