use Rattle.std.proofs.Common.{◌∙◌, sym, ap, length}
use Rattle.sgb_graph.proofs.Cells.{length-zipped}
use Rattle.sgb_graph.proofs.graph.arena.Arena.len.Goals as goal

pub returns : goal.returns
returns c =
    let a = c.self.inside in
    c.len.ensures ∙ (a.cells.ok.0 ∙ (sym (length-zipped a.cells.items a.fields.items) ∙ ap length c.self.view_is))
