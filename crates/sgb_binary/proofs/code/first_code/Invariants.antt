use Rattle.std.proofs.Common.{◌≡◌, ◌≤◌, ◌<◌, ◌+◌, ◌^◌, take, drop}
use Rattle.sgb_binary.specs.Private.Code.{code_of}
use Rattle.sgb_binary.specs.Private.Span.{span_from}
use Rattle.sgb_binary.proofs.code.first_code.Given as goal

abbrev pub invariant-loop-letter : goal.invariant-loop-letter
invariant-loop-letter l = record {
  rest : span_from 0 1 l.word ≡ span_from l.letter-index l.needed (drop l.letter-index l.word);
  some : 0 < l.needed;
  few : l.needed ≤ l.letter-index + 1;
  code : l.code ≡ code_of (take l.letter-index l.word);
  worth : l.worth ≡ 2 ^ l.letter-index;
}
