use Rattle.std.proofs.Common.{◌≡◌, find}
use Rattle.sgb_import.specs.Edges.{is_comment}
use Rattle.sgb_import.specs.Lines.{lines}
use Rattle.sgb_import.proofs.edges_header.find_header.Given as goal

abbrev pub invariant-loop-line : goal.invariant-loop-line
invariant-loop-line l = find is_comment l.line-iterator ≡ find is_comment (lines l.text)
