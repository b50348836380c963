use Rattle.std.proofs.Common.{append_assoc}
use Rattle.sgb_programs.proofs.moves.print_heading.Goals as goal

pub returns : goal.returns
returns g c =
    simp append_assoc
    (rw (c.id.ensures.value, c.as_bytes.ensures.value, c.format.ensures.text, c.n.ensures.value, c.as_bytes-2.ensures.value, c.format-2.ensures.text, c.m.ensures.value)
    at c.put_all.ensures)
