use Rattle.std.proofs.Common.{◌∙◌, ◌++◌, ap, sym, take, append_assoc}
use Rattle.std.proofs.lemmas.List.{take_all, take_more}
use Rattle.sgb_shell.specs.Private.Holding.{held_line}
use Rattle.sgb_shell.proofs.buffer.LineBuffer.extend.Goals as goal

pub loop-byte-preserved : goal.loop-byte-preserved
loop-byte-preserved c line held =
    let bytes = c.args.bytes.now in
    let i = c.loop-byte.byte-index in
    c.push.ensures (line ++ take i bytes) (c.loop-byte.invariant line held)
    ∙ ap held_line (append_assoc line (take i bytes) _ ∙ ap (λ t. line ++ t) (sym (take_more bytes i 0 c.loop-byte-test.true)))

pub returns : goal.returns
returns c line held = c.loop-byte.invariant line held ∙ ap (λ t. held_line (line ++ t)) (take_all c.loop-byte.byte-index c.args.bytes.now c.loop-byte-test.false)
