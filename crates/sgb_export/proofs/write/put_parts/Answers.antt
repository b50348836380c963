use Rattle.sgb_print.proofs.TextPieces.{fails_early, prints_behind}
use Rattle.sgb_export.specs.Text.{listed_text}
use Rattle.sgb_export.proofs.write.put_parts.Goals as goal

pub returns-in_err-put_head : goal.returns-in_err-put_head
unfolding listed_text
returns-in_err-put_head g c = rw (← c.is_directed_in-directed.ensures) (fails_early _ c.in_err-put_head.ensures c.from_residual.ensures.0)

pub returns-in_err-put_vertices : goal.returns-in_err-put_vertices
unfolding listed_text
returns-in_err-put_vertices g c =
    rw (← c.is_directed_in-directed.ensures)
    (prints_behind c.in_ok-put_head.ensures (fails_early _ c.in_err-put_vertices.ensures c.from_residual-in_err-put_vertices.ensures.0))

pub returns-in_err-put_links : goal.returns-in_err-put_links
unfolding listed_text
returns-in_err-put_links g c =
    rw (← c.is_directed_in-directed.ensures)
    (prints_behind c.in_ok-put_head.ensures
    (prints_behind c.in_ok-put_vertices.ensures (fails_early _ c.in_err-put_links.ensures c.from_residual-in_err-put_links.ensures.0)))

pub returns : goal.returns
unfolding listed_text
returns g c =
    rw (← c.is_directed_in-directed.ensures)
    (prints_behind c.in_ok-put_head.ensures (prints_behind c.in_ok-put_vertices.ensures (prints_behind c.in_ok-put_links.ensures c.put_foot.ensures)))
