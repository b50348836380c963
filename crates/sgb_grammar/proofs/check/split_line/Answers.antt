use Rattle.std.proofs.Common.{◌<◌, ◌==◌, not, length, arith}
use Rattle.std.specs.List.{prefix_len}
use Rattle.sgb_grammar.specs.Check.{lines_of}
use Rattle.sgb_grammar.proofs.LineWeights.{line_ends, last_line}
use Rattle.sgb_grammar.proofs.check.split_line.Goals as goal

pub returns-then-end-bytes-clause-lines : goal.returns-then-end-bytes-clause-lines
returns-then-end-bytes-clause-lines c =
    let bs = c.args.bytes.now in
    let short : prefix_len (λ b. not (b == 10)) bs < length bs = omega arith in
    rw (c.split_at.ensures.front, c.split_at.ensures.back, c.count_to_newline-end.ensures.count) (line_ends bs short)

pub returns-else-end-bytes-clause-lines : goal.returns-else-end-bytes-clause-lines
unfolding lines_of
returns-else-end-bytes-clause-lines c = last_line c.args.bytes.now c.requires (omega arith)
