use Rattle.std.proofs.Common.{drop}
use Rattle.std.specs.List.{flat_map}
use Rattle.sgb_shell.specs.Answer.{single_text}
use Rattle.sgb_print.proofs.TextPieces.{Writes}
use Rattle.sgb_shell.proofs.answer.print_replies.Given as goal

abbrev pub invariant-loop-reply : goal.invariant-loop-reply
invariant-loop-reply g l = Writes l.initial.writer l.writer (flat_map single_text l.members) (flat_map single_text (drop l.reply-index l.members))
