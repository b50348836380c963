use Rattle.sgb_print.proofs.TextPieces.{fails_early, prints_behind}
use Rattle.sgb_export.proofs.edges.put_edges_head.Goals as goal

pub returns-in_err-put_counts : goal.returns-in_err-put_counts
returns-in_err-put_counts g c = fails_early _ c.in_err-put_counts.ensures c.from_residual.ensures.0

pub returns : goal.returns
returns g c = prints_behind c.in_ok-put_counts.ensures c.put_id.ensures
