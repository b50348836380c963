use Rattle.std.proofs.Common.{◌∙◌, arith, ap, length, get_or}
use Rattle.sgb_graph.specs.declared.field.Util.TheVariants as utils
use Rattle.sgb_graph.specs.Private.Vertices.{first_at, values_at}
use Rattle.sgb_graph.proofs.Vertices.{labels_low, values_are, value_put}
use Rattle.sgb_graph.proofs.graph.vertices.Vertices.replace_field.Goals as goal

pub replace_value-requires-clause-room : goal.replace_value-requires-clause-room
replace_value-requires-clause-room c =
    let a = c.self.inside in
    omega (arith, labels_low a.labels.items (first_at a.firsts.items) (values_at a.fields.items) c.args.self.now c.args.vertex.0 c.self.view_is c.requires.vertex, a.labels.ok.0, c.self.invariant.2)

pub replace_value-requires-clause-fields : goal.replace_value-requires-clause-fields
replace_value-requires-clause-fields c =
    let a = c.self.inside in
    ap length (values_are a.labels.items (first_at a.firsts.items) a.fields.items c.args.self.now c.args.vertex.0 c.self.view_is c.requires.vertex) ∙ c.requires.fields

pub invariant_of-self : goal.invariant_of-self
invariant_of-self c =
    let a = c.self.inside in
    let low = labels_low a.labels.items (first_at a.firsts.items) (values_at a.fields.items) c.args.self.now c.args.vertex.0 c.self.view_is c.requires.vertex in
    (c.self.invariant.0, omega (arith, low, a.labels.ok.0, c.self.invariant.1, c.replace_value.ensures.len), omega (arith, c.self.invariant.2, c.replace_value.ensures.capacity), c.self.invariant.3)

pub returns-clause-old : goal.returns-clause-old
returns-clause-old c =
    let a = c.self.inside in
    c.replace_value.ensures.old
    ∙ ap (λ us. get_or us c.args.place utils.Zero) (values_are a.labels.items (first_at a.firsts.items) a.fields.items c.args.self.now c.args.vertex.0 c.self.view_is c.requires.vertex)

pub returns-clause-vertices : goal.returns-clause-vertices
returns-clause-vertices c =
    let a = c.self.inside in
    value_put a.labels.items (first_at a.firsts.items) a.fields.items c.replace_value.new.fields.items c.args.self.now c.args.vertex.0 c.args.place c.args.value c.self.view_is c.requires.vertex c.replace_value.ensures.puts
