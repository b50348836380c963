use Rattle.std.proofs.Common.{◌∙◌, sym, ap, length}
use Rattle.sgb_graph.proofs.Vertices.{length-rows}
use Rattle.sgb_graph.proofs.graph.vertices.Vertices.len.Goals as goal

pub returns : goal.returns
returns c =
    let a = c.self.inside in
    c.len.ensures ∙ (a.labels.ok.0 ∙ (sym (length-rows a.labels.items _ _) ∙ ap length c.self.view_is))
