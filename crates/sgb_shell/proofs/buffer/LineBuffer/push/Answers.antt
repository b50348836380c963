use Rattle.std.proofs.Common.{◌∙◌, arith}
use Rattle.sgb_shell.proofs.LineBytes.{held_first, held_kept, held_full}
use Rattle.sgb_shell.proofs.buffer.LineBuffer.push.Goals as goal

pub returns-then-len-lt-LINE_LIMIT : goal.returns-then-len-lt-LINE_LIMIT
returns-then-len-lt-LINE_LIMIT c line held =
    let before = c.self.view_is ∙ held in
    held_kept line _ _ _ c.args.byte _ _ before (omega arith) c.push_reserved.ensures.items (c.push.ensures line (held_first line _ _ _ before))

pub returns-else-len-lt-LINE_LIMIT : goal.returns-else-len-lt-LINE_LIMIT
returns-else-len-lt-LINE_LIMIT c line held =
    let before = c.self.view_is ∙ held in
    held_full line _ _ _ c.args.byte _ before (omega arith) (c.push.ensures line (held_first line _ _ _ before))
