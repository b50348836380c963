use Rattle.sgb_simplex.proofs.Rows.{row_none}
use Rattle.sgb_simplex.proofs.counts.row_of_none.Goals as goal

pub returns : goal.returns
returns c = let h = c.in_ok-row.ensures.items_if_clones_equal in row_none c.args.total c.in_ok-row.row.items (h (λ y same. same))
