use Rattle.std.proofs.Common.{Some, ap, ◌∙◌}
use Rattle.sgb_import.proofs.EdgesHeads.{quoted, unquoted}
use Rattle.sgb_import.proofs.edges_id.before_quote.Goals as goal

pub returns-then-not-ends_with_quote : goal.returns-then-not-ends_with_quote
returns-then-not-ends_with_quote c = unquoted c.args.bytes.now (rw c.ends_with_quote.ensures at c.if-not-ends_with_quote.true)

pub returns : goal.returns
returns c = ap (λ t. Some t) c.split_at.ensures.front ∙ quoted c.args.bytes.now (rw c.ends_with_quote.ensures at c.if-not-ends_with_quote.false)
