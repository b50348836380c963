use Rattle.sgb_combine.proofs.LengthSwaps.{Exchanged}
use Rattle.sgb_combine.proofs.exchange.exchange_lengths.Given as goal

abbrev pub invariant-loop-k : goal.invariant-loop-k
invariant-loop-k l = Exchanged l.initial.graph l.initial.lengths l.graph l.lengths l.k
