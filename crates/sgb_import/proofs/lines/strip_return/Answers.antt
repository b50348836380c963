use Rattle.std.proofs.Common.{◌∙◌}
use Rattle.sgb_import.proofs.LineCursor.{with_return, without}
use Rattle.sgb_import.proofs.lines.strip_return.Goals as goal

pub returns-then-not-ends_with_return : goal.returns-then-not-ends_with_return
returns-then-not-ends_with_return c = without c.args.bytes.now (rw c.ends_with_return.ensures at c.if-not-ends_with_return.true)

pub returns : goal.returns
returns c = c.split_at.ensures.front ∙ with_return c.args.bytes.now (rw c.ends_with_return.ensures at c.if-not-ends_with_return.false)
