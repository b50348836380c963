use Rattle.std.proofs.Common.{arith}
use Rattle.sgb_graph.specs.Private.Vertices.{first_at, values_at}
use Rattle.sgb_graph.proofs.Vertices.{labels_low, first_read}
use Rattle.sgb_graph.proofs.graph.vertices.Vertices.first.Goals as goal

pub index-requires : goal.index-requires
index-requires c =
    let a = c.self.inside in
    omega (arith, labels_low a.labels.items (first_at a.firsts.items) (values_at a.fields.items) c.args.self.now c.args.vertex.0 c.self.view_is c.requires, a.labels.ok.0, c.self.invariant.0)

pub returns : goal.returns
returns c =
    let a = c.self.inside in
    first_read a.labels.items a.firsts.items (values_at a.fields.items) c.args.self.now c.args.vertex.0 _ c.self.view_is c.requires
    (omega (arith, a.labels.ok.0, a.firsts.ok.0, c.self.invariant.0)) c.index.ensures
