use Rattle.sgb_graph.proofs.Cells.{slot_aimed, zipped-aimed}
use Rattle.sgb_graph.specs.Private.Cells.{is_aimed}
use Rattle.std.specs.List.{list_all}
use Rattle.std.proofs.Common.{◌∙◌, ap, sym}
use Rattle.sgb_graph.proofs.graph.arena.Arena.is_aimed.Goals as goal

pub returns : goal.returns
returns c =
    let a = c.self.inside in
    c.are_cells_aimed.ensures
    ∙ (ap (list_all is_aimed) c.deref.ensures.value ∙ (sym (zipped-aimed a.cells.items a.fields.items) ∙ ap (list_all slot_aimed) c.self.view_is))
