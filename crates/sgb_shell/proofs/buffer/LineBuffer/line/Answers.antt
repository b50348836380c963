use Rattle.std.proofs.Common.{◌∙◌, sym}
use Rattle.sgb_shell.proofs.LineBytes.{held_first, held_long, held_whole}
use Rattle.sgb_shell.proofs.buffer.LineBuffer.line.Goals as goal

pub returns-then-self : goal.returns-then-self
returns-then-self c line held =
    let before = c.self.view_is ∙ held in
    (held_first line _ _ _ before, sym (held_long line _ _ _ before) ∙ c.if-self.true)

pub returns : goal.returns
returns c line held =
    let before = c.self.view_is ∙ held in
    (c.as_slice.ensures.value ∙ held_whole line _ _ _ before c.if-self.false, sym (held_long line _ _ _ before) ∙ c.if-self.false)
