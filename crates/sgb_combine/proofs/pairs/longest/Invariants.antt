use Rattle.std.proofs.Common.{◌≤◌}
use Rattle.sgb_combine.specs.Private.Pairs.{IsLongestOf}
use Rattle.sgb_combine.proofs.pairs.longest.Given as goal

abbrev pub invariant-loop-v : goal.invariant-loop-v
invariant-loop-v l = record {
  limit : l.most ≤ 4095;
  longest : IsLongestOf l.graph l.v l.most;
}
