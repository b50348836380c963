use Rattle.std.proofs.Common.{◌++◌, [], ap, map, ◌∙◌}
use Rattle.sgb_graph.specs.Private.Cells.{zipped}
use Rattle.sgb_graph.specs.Private.Lay.{laid_cell}
use Rattle.sgb_graph.proofs.ArcOwners.{laid_zipped}
use Rattle.sgb_graph.proofs.graph.arena.Arena.laid.Goals as goal

pub returns-clause-ok : goal.returns-clause-ok
returns-clause-ok c =
    ap (zipped c.push_laid.new.cells.items) c.in_ok-fields.ensures.items
    ∙ (ap (λ cs. zipped cs []) (c.push_laid.ensures.cells ∙ ap (λ cs. cs ++ map laid_cell c.args.rows.now) c.in_ok-cells.ensures.items)
    ∙ laid_zipped c.args.rows.now)
