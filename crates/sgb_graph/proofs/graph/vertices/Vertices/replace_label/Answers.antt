use Rattle.std.proofs.Common.{◌∙◌, arith}
use Rattle.sgb_graph.specs.Private.Vertices.{first_at, values_at}
use Rattle.sgb_graph.proofs.Vertices.{labels_low, name_read, name_put}
use Rattle.sgb_graph.proofs.graph.vertices.Vertices.replace_label.Goals as goal

pub index_mut-requires : goal.index_mut-requires
index_mut-requires c =
    let a = c.self.inside in
    omega (arith, labels_low a.labels.items (first_at a.firsts.items) (values_at a.fields.items) c.args.self.now c.args.vertex.0 c.self.view_is c.requires, a.labels.ok.0)

pub returns-clause-old : goal.returns-clause-old
returns-clause-old c =
    let a = c.self.inside in
    c.replace.ensures.value
    ∙ name_read a.labels.items (first_at a.firsts.items) (values_at a.fields.items) c.args.self.now c.args.vertex.0 _ c.self.view_is c.requires c.index_mut.ensures.value

pub returns-clause-vertices : goal.returns-clause-vertices
returns-clause-vertices c =
    let a = c.self.inside in
    name_put a.labels.items (first_at a.firsts.items) (values_at a.fields.items) c.args.self.now c.args.vertex.0 c.replace.new.dest c.args.label c.self.view_is c.requires c.replace.ensures.after
