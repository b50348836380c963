use Rattle.std.proofs.Common.{length}
use Rattle.sgb_import.specs.Lines.{lines}
use Rattle.sgb_import.proofs.DimacsReading.{Behind}
use Rattle.sgb_import.proofs.dimacs.read_lines.Given as goal

abbrev pub invariant-loop-line : goal.invariant-loop-line
invariant-loop-line l = record {
  can : (goal.iterator-loop-line).can_next l.line-iterator;
  finite : (goal.iterator-loop-line).is_finite l.line-iterator;
  behind : Behind (lines l.text) (length l.yielded) l.line-iterator l.reader;
}
