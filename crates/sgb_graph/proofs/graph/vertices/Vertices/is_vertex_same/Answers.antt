use Rattle.std.proofs.Common.{◌∙◌, ap, arith}
use Rattle.sgb_graph.specs.Private.SameRows.{row_eq}
use Rattle.sgb_graph.specs.Private.Vertices.{first_at, values_at, row}
use Rattle.sgb_graph.specs.Private.Link.{vertex_in}
use Rattle.sgb_graph.proofs.Vertices.{labels_low, name_read, first_read, row_read}
use Rattle.sgb_graph.proofs.graph.vertices.Vertices.is_vertex_same.Goals as goal

pub index-requires : goal.index-requires
index-requires c =
    let a = c.self.inside in
    omega (arith, labels_low a.labels.items (first_at a.firsts.items) (values_at a.fields.items) c.args.self.now c.args.index c.self.view_is c.requires.here, a.labels.ok.0)

pub index-requires-2 : goal.index-requires-2
index-requires-2 c =
    let b = c.other.inside in
    omega (arith, labels_low b.labels.items (first_at b.firsts.items) (values_at b.fields.items) c.args.other.now c.args.index c.other.view_is c.requires.there, b.labels.ok.0)

pub index-requires-3 : goal.index-requires-3
index-requires-3 c =
    let a = c.self.inside in
    omega (arith, labels_low a.labels.items (first_at a.firsts.items) (values_at a.fields.items) c.args.self.now c.args.index c.self.view_is c.requires.here, a.labels.ok.0, c.self.invariant.0)

pub index-requires-4 : goal.index-requires-4
index-requires-4 c =
    let b = c.other.inside in
    omega (arith, labels_low b.labels.items (first_at b.firsts.items) (values_at b.fields.items) c.args.other.now c.args.index c.other.view_is c.requires.there, b.labels.ok.0, c.other.invariant.0)

pub returns : goal.returns
returns c =
    let a = c.self.inside in
    let b = c.other.inside in
    let i = c.args.index in
    let here = row_read _ c.index.result.now c.index-3.result.now c.fields.result.now
    (name_read a.labels.items (first_at a.firsts.items) (values_at a.fields.items) c.args.self.now i _ c.self.view_is c.requires.here c.index.ensures)
    (first_read a.labels.items a.firsts.items (values_at a.fields.items) c.args.self.now i _ c.self.view_is c.requires.here (omega (arith, a.labels.ok.0, a.firsts.ok.0, c.self.invariant.0)) c.index-3.ensures)
    c.fields.ensures in
    let there = row_read _ c.index-2.result.now c.index-4.result.now c.fields-2.result.now
    (name_read b.labels.items (first_at b.firsts.items) (values_at b.fields.items) c.args.other.now i _ c.other.view_is c.requires.there c.index-2.ensures)
    (first_read b.labels.items b.firsts.items (values_at b.fields.items) c.args.other.now i _ c.other.view_is c.requires.there (omega (arith, b.labels.ok.0, b.firsts.ok.0, c.other.invariant.0)) c.index-4.ensures)
    c.fields-2.ensures in
    c.is_row_same.ensures
    ∙ (ap (λ v. row_eq v (row c.index-2.result.now c.index-4.result.now c.fields-2.result.now)) here ∙ ap (row_eq (vertex_in c.args.self.now i)) there)
