use Rattle.std.proofs.Common.{arith}
use Rattle.sgb_graph.specs.Private.Vertices.{first_at, values_at}
use Rattle.sgb_graph.proofs.Vertices.{labels_low, name_read}
use Rattle.sgb_graph.proofs.graph.vertices.Vertices.label.Goals as goal

pub index-requires : goal.index-requires
index-requires c =
    let a = c.self.inside in
    omega (arith, labels_low a.labels.items (first_at a.firsts.items) (values_at a.fields.items) c.args.self.now c.args.vertex.0 c.self.view_is c.requires, a.labels.ok.0)

pub returns : goal.returns
returns c =
    let a = c.self.inside in
    name_read a.labels.items (first_at a.firsts.items) (values_at a.fields.items) c.args.self.now c.args.vertex.0 _ c.self.view_is c.requires c.index.ensures
