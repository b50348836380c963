use Rattle.std.proofs.Common.{◌≡◌, true}
use Rattle.std.specs.List.{list_all, range_with_len}
use Rattle.sgb_induced.specs.Fate.{fates_of, has_fate}
use Rattle.sgb_induced.specs.Image.{has_name}
use Rattle.sgb_induced.proofs.name.check_fates.Given as goal

abbrev pub invariant-loop-v : goal.invariant-loop-v
invariant-loop-v l = record {
  fates : list_all (has_fate l.graph) (range_with_len 0 l.v) ≡ true;
  names : list_all (has_name l.graph (fates_of l.graph)) (range_with_len 0 l.v) ≡ true;
}
