use Rattle.sgb_shell.proofs.LineBytes.{held_none}
use Rattle.sgb_shell.proofs.buffer.LineBuffer.new.Goals as goal

pub returns : goal.returns
returns c = held_none _ _ c.in_ok-with_capacity.ensures.items c.new.ensures
