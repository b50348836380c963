use Rattle.std.proofs.Common.{◌≡◌, ◌≢◌, ◌<◌, ◌+◌, ℕ, get_or}
use Rattle.sgb_info.proofs.bipartite.are_apart.Given as goal

abbrev pub invariant-loop-v : goal.invariant-loop-v
invariant-loop-v l = record {
  same : l.classes ≡ l.initial.classes;
  apart : (v : ℕ) → v < l.v → get_or l.initial.classes v 0 ≢ get_or l.initial.classes (v + l.n) 0;
}
