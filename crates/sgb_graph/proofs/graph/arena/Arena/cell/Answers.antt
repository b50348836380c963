use Rattle.std.proofs.Common.{arith}
use Rattle.sgb_graph.proofs.Cells.{cells_low, cell_is}
use Rattle.sgb_graph.proofs.graph.arena.Arena.cell.Goals as goal

pub index-requires : goal.index-requires
index-requires c =
    let a = c.self.inside in
    omega (arith, cells_low a.cells.items a.fields.items c.args.self.now c.args.index c.self.view_is c.requires, a.cells.ok.0)

pub returns : goal.returns
returns c =
    let a = c.self.inside in
    cell_is a.cells.items a.fields.items c.args.self.now c.args.index _ c.self.view_is c.requires c.index.ensures
