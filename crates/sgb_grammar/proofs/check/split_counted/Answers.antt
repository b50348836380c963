use Rattle.sgb_grammar.proofs.StarLines.{all_count, lines_before_star, behind_star}
use Rattle.sgb_grammar.proofs.check.split_counted.Goals as goal

pub returns-then-bytes-eq42-clause-lines : goal.returns-then-bytes-eq42-clause-lines
returns-then-bytes-eq42-clause-lines c = behind_star c.args.bytes.now _ _ c.if-bytes-eq42.true c.split_line.ensures.lines

pub returns-in-Some-clause-lines : goal.returns-in-Some-clause-lines
returns-in-Some-clause-lines c =
    let found = c.in-Some.ensures in
    rw (c.split_at.ensures.front, c.split_at.ensures.back) (lines_before_star c.args.bytes.now c.in-Some.end c.if-bytes-eq42.false found.0.before found.1)

pub returns-in-None-clause-lines : goal.returns-in-None-clause-lines
returns-in-None-clause-lines c = all_count c.args.bytes.now c.if-bytes-eq42.false c.in-None.ensures
