use Rattle.std.proofs.Common.{arith}
use Rattle.sgb_graph.proofs.Cells.{cells_low, live_low, cell_set}
use Rattle.sgb_graph.proofs.graph.arena.Arena.set_cell.Goals as goal

pub index_mut-requires : goal.index_mut-requires
index_mut-requires c =
    let a = c.self.inside in
    omega (arith, cells_low a.cells.items a.fields.items c.args.self.now c.args.index c.self.view_is (live_low c.args.self.now c.args.index c.requires), a.cells.ok.0)

pub returns : goal.returns
returns c =
    let a = c.self.inside in
    cell_set a.cells.items a.fields.items c.args.self.now c.args.index c.args.cell c.self.view_is c.requires
