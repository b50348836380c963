use Rattle.std.proofs.Common.{append_assoc}
use Rattle.sgb_print.proofs.show.print_made.Goals as goal

pub returns : goal.returns
returns g c = simp append_assoc (rw (c.as_bytes.ensures.value, c.format.ensures.text, c.as_bytes-2.ensures.value, c.format-2.ensures.text) at c.put_all.ensures)
