use Rattle.sgb_combine.proofs.LengthSwaps.{Given}
use Rattle.sgb_combine.proofs.exchange.give_lengths.Given as goal

abbrev pub invariant-loop-k : goal.invariant-loop-k
invariant-loop-k l = Given l.initial.graph l.lengths l.graph l.k
