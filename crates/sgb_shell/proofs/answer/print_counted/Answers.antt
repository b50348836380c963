use Rattle.std.proofs.Common.{append_assoc, append-nil}
use Rattle.sgb_shell.proofs.answer.print_counted.Goals as goal

pub returns : goal.returns
returns g c =
    simp append_assoc (rw (c.prepend-2.ensures.text, c.prepend_number.ensures.text, c.prepend.ensures.text, c.new-page.ensures, append-nil) at c.print.ensures)
