use Rattle.std.proofs.Common.{◌==◌, ◌∙◌, ap}
use Rattle.sgb_shell.proofs.LineBytes.{held_empty}
use Rattle.sgb_shell.proofs.buffer.LineBuffer.is_empty.Goals as goal

pub returns : goal.returns
returns c line held = c.is_empty.ensures ∙ ap (λ k. k == 0) c.self.inside.bytes.ok.0 ∙ held_empty line _ _ _ (c.self.view_is ∙ held)
