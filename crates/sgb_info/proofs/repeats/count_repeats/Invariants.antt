use Rattle.std.proofs.Common.{◌≡◌, ◌≤◌, length, All}
use Rattle.sgb_info.proofs.Turns.{repeats_to, Marks}
use Rattle.sgb_info.proofs.repeats.count_repeats.Given as goal

abbrev pub invariant-loop-number : goal.invariant-loop-number
invariant-loop-number l = record {
  count : l.count ≡ repeats_to l.numbers l.number-index;
  few : l.count ≤ l.number-index;
  width : length l.last ≡ length l.fn.last;
  behind : All (λ t. t ≤ l.turn) l.last;
  marks : Marks l.numbers l.number-index l.turn l.last;
}
