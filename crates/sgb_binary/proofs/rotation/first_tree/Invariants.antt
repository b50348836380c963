use Rattle.std.proofs.Common.{◌≡◌, ◌≤◌, ◌<◌, ◌+◌, drop}
use Rattle.sgb_binary.specs.Private.Span.{span_from}
use Rattle.sgb_binary.proofs.rotation.first_tree.Given as goal

abbrev pub invariant-loop-i : goal.invariant-loop-i
invariant-loop-i l = record {
  rest : span_from 0 1 l.word ≡ span_from l.i l.needed (drop l.i l.word);
  some : 0 < l.needed;
  few : l.needed ≤ l.i + 1;
}
