use Rattle.sgb_shell.proofs.LineBytes.{held_none}
use Rattle.sgb_shell.proofs.buffer.LineBuffer.clear.Goals as goal

pub returns : goal.returns
returns c = held_none _ _ c.clear.ensures.items c.clear-2.ensures
