use Rattle.sgb_plan.proofs.Plans.{NamesLeft}
use Rattle.sgb_combine.specs.Product.{pair_names}
use Rattle.sgb_combine.proofs.PairNames.{rows_left}
use Rattle.sgb_combine.proofs.pairs.begin_pairs.Given as goal

abbrev pub invariant-loop-a : goal.invariant-loop-a
invariant-loop-a l =
    NamesLeft l.initial.builder (pair_names l.first l.second) l.builder (rows_left l.first l.second l.a)
