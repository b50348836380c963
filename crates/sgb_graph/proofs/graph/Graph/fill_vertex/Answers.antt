use Rattle.sgb_graph.specs.Graph.{no_vertex}
use Rattle.sgb_graph.specs.declared.field.VertexField.TheVariants as fields
use Rattle.sgb_graph.proofs.FieldValues.{six_of, six_named, names_refl, names_then, named_vertex, vertex_filled}
use Rattle.sgb_graph.proofs.graph.Graph.fill_vertex.Goals as goal

pub fill-requires : goal.fill-requires
fill-requires c =
    let x = six_named c.args.self.now c.args.fields _ _ _ _ _ _ (six_of c.args.fields _ _ _ _ _ _ c.six-u.ensures.len c.six-u.ensures.first c.six-u.ensures.second c.six-u.ensures.third c.six-u.ensures.fourth c.six-u.ensures.fifth c.six-u.ensures.sixth) c.requires.names in
    named_vertex c.args.self.now _ c.args.vertex fields.U _ (names_refl c.args.self.now) c.requires.vertex x.first

pub fill-requires-2 : goal.fill-requires-2
fill-requires-2 c =
    let x = six_named c.args.self.now c.args.fields _ _ _ _ _ _ (six_of c.args.fields _ _ _ _ _ _ c.six-u.ensures.len c.six-u.ensures.first c.six-u.ensures.second c.six-u.ensures.third c.six-u.ensures.fourth c.six-u.ensures.fifth c.six-u.ensures.sixth) c.requires.names in
    named_vertex c.args.self.now _ c.args.vertex fields.V _ (c.fill.ensures.names) c.requires.vertex x.second

pub fill-requires-3 : goal.fill-requires-3
fill-requires-3 c =
    let x = six_named c.args.self.now c.args.fields _ _ _ _ _ _ (six_of c.args.fields _ _ _ _ _ _ c.six-u.ensures.len c.six-u.ensures.first c.six-u.ensures.second c.six-u.ensures.third c.six-u.ensures.fourth c.six-u.ensures.fifth c.six-u.ensures.sixth) c.requires.names in
    named_vertex c.args.self.now _ c.args.vertex fields.W _ (names_then _ _ _ (c.fill.ensures.names) c.fill-2.ensures.names) c.requires.vertex x.third

pub fill-requires-4 : goal.fill-requires-4
fill-requires-4 c =
    let x = six_named c.args.self.now c.args.fields _ _ _ _ _ _ (six_of c.args.fields _ _ _ _ _ _ c.six-u.ensures.len c.six-u.ensures.first c.six-u.ensures.second c.six-u.ensures.third c.six-u.ensures.fourth c.six-u.ensures.fifth c.six-u.ensures.sixth) c.requires.names in
    named_vertex c.args.self.now _ c.args.vertex fields.X _ (names_then _ _ _ (names_then _ _ _ (c.fill.ensures.names) c.fill-2.ensures.names) c.fill-3.ensures.names) c.requires.vertex x.fourth

pub fill-requires-5 : goal.fill-requires-5
fill-requires-5 c =
    let x = six_named c.args.self.now c.args.fields _ _ _ _ _ _ (six_of c.args.fields _ _ _ _ _ _ c.six-u.ensures.len c.six-u.ensures.first c.six-u.ensures.second c.six-u.ensures.third c.six-u.ensures.fourth c.six-u.ensures.fifth c.six-u.ensures.sixth) c.requires.names in
    named_vertex c.args.self.now _ c.args.vertex fields.Y _ (names_then _ _ _ (names_then _ _ _ (names_then _ _ _ (c.fill.ensures.names) c.fill-2.ensures.names) c.fill-3.ensures.names) c.fill-4.ensures.names) c.requires.vertex x.fifth

pub fill-requires-6 : goal.fill-requires-6
fill-requires-6 c =
    let x = six_named c.args.self.now c.args.fields _ _ _ _ _ _ (six_of c.args.fields _ _ _ _ _ _ c.six-u.ensures.len c.six-u.ensures.first c.six-u.ensures.second c.six-u.ensures.third c.six-u.ensures.fourth c.six-u.ensures.fifth c.six-u.ensures.sixth) c.requires.names in
    named_vertex c.args.self.now _ c.args.vertex fields.Z _ (names_then _ _ _ (names_then _ _ _ (names_then _ _ _ (names_then _ _ _ (c.fill.ensures.names) c.fill-2.ensures.names) c.fill-3.ensures.names) c.fill-4.ensures.names) c.fill-5.ensures.names) c.requires.vertex x.sixth

pub returns-clause-filled : goal.returns-clause-filled
returns-clause-filled c =
    vertex_filled c.args.self.now _ _ _ _ _ _ c.args.vertex c.args.fields _ _ _ _ _ _ c.requires.vertex (c.fill.ensures.before.vertices c.args.vertex.0 no_vertex c.requires.vertex).six (six_of c.args.fields _ _ _ _ _ _ c.six-u.ensures.len c.six-u.ensures.first c.six-u.ensures.second c.six-u.ensures.third c.six-u.ensures.fourth c.six-u.ensures.fifth c.six-u.ensures.sixth)
    c.fill.ensures.value c.fill-2.ensures.value c.fill-3.ensures.value c.fill-4.ensures.value c.fill-5.ensures.value c.fill-6.ensures.value
