use Rattle.std.proofs.Common.{◌≡◌}
use Rattle.sgb_import.specs.Lines.{lines}
use Rattle.sgb_import.specs.Dimacs.{id_line}
use Rattle.sgb_import.proofs.dimacs.find_id.Given as goal

abbrev pub invariant-loop-line : goal.invariant-loop-line
invariant-loop-line l = record {
  can : (goal.iterator-loop-line).can_next l.line-iterator;
  finite : (goal.iterator-loop-line).is_finite l.line-iterator;
  left : id_line l.line-iterator ≡ id_line (lines l.text);
}
