use Rattle.std.proofs.Common.{◌≡◌, ◌<◌, [], ℕ, length, get_or}
use Rattle.std.specs.List.{slice_index}
use Rattle.sgb_simplex.specs.Points.{points}
use Rattle.sgb_simplex.specs.Private.Codes.{code_from}
use Rattle.sgb_simplex.proofs.coded.list_codes.Given as goal

abbrev pub invariant-loop-v : goal.invariant-loop-v
invariant-loop-v l = record {
  long : length l.codes.items ≡ l.v;
  at : (k : ℕ) → k < l.v → slice_index l.codes.items k ≡ code_from 0 l.list.bounds.items (get_or (points l.list.total l.list.bounds.items) k []);
}
