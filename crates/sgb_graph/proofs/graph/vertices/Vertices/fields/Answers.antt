use Rattle.std.proofs.Common.{◌∙◌, ap}
use Rattle.sgb_graph.specs.Private.Vertices.{first_at, values_at}
use Rattle.sgb_graph.proofs.Vertices.{values_are}
use Rattle.sgb_graph.proofs.graph.vertices.Vertices.fields.Goals as goal

pub returns : goal.returns
returns c =
    let a = c.self.inside in
    c.values_at.ensures
    ∙ (ap (λ fs. values_at fs c.args.index) c.deref.ensures.value ∙ values_are a.labels.items (first_at a.firsts.items) a.fields.items c.args.self.now c.args.index c.self.view_is c.requires)
