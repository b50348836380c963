use Rattle.std.proofs.Common.{drop}
use Rattle.std.specs.List.{flat_map}
use Rattle.sgb_shell.specs.Answer.{entry_text}
use Rattle.sgb_print.proofs.TextPieces.{Writes}
use Rattle.sgb_shell.proofs.answer.print_entries.Given as goal

abbrev pub invariant-loop-place : goal.invariant-loop-place
invariant-loop-place g l = Writes l.initial.writer l.writer (flat_map entry_text l.session.table) (flat_map entry_text (drop l.place l.session.table))
