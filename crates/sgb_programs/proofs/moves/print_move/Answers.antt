use Rattle.std.proofs.Common.{append_assoc}
use Rattle.sgb_programs.proofs.Queens.{length_read}
use Rattle.sgb_programs.proofs.moves.print_move.Goals as goal

pub returns : goal.returns
returns g c =
    let arc = c.in-Some.ensures.entry in
    let len = length_read c.args.graph.now c.args.number.0 c.in-Some.arc.len c.in-Some.ensures.graph c.requires.within c.requires.live arc.len in
    simp append_assoc (rw (c.target.ensures, arc.tip, c.as_bytes-len.ensures.value, c.format.ensures.text, len) at c.put_all.ensures)
