use Rattle.std.proofs.Common.{◌∙◌, ap}
use Rattle.sgb_graph.specs.Private.Cells.{kept_at}
use Rattle.sgb_graph.proofs.Cells.{fields_are}
use Rattle.sgb_graph.proofs.graph.arena.Arena.fields.Goals as goal

pub returns : goal.returns
returns c =
    let a = c.self.inside in
    c.kept_at.ensures ∙ (ap (λ fs. kept_at fs c.args.index) c.deref.ensures.value ∙ fields_are a.cells.items a.fields.items c.args.self.now c.args.index c.self.view_is c.requires)
