use Rattle.std.proofs.Common.{◌≡◌, ap, ◌∙◌, arith, length}
use Rattle.sgb_graph.proofs.FieldValues.{filling_begins, filled_more, filling_ends, turn_names, turn_low, empty_of, names_refl, names_labelled}
use Rattle.sgb_graph.specs.Edit.{with_label}
use Rattle.sgb_graph.specs.Private.Fill.{with_filled_vertex}
use Rattle.sgb_graph.proofs.graph.Graph.fill_vertices.Goals as goal

pub loop-part-init : goal.loop-part-init
loop-part-init c = filling_begins c.args.vertices.items c.args.self.now c.requires.n c.n.ensures.graph

pub swap_label-requires : goal.swap_label-requires
swap_label-requires c =
    let low = turn_low c.args.vertices.items c.loop-part.vertices.items c.pop.new.self.items c.in-Some.part c.args.self.now c.loop-part.self c.loop-part.self c.loop-part.invariant c.in-Some.ensures.items c.requires.n (names_refl c.loop-part.self) in
    omega (arith, c.len.ensures, c.pop.new.self.ok.0, low)

pub fill_vertex-requires-clause-vertex : goal.fill_vertex-requires-clause-vertex
fill_vertex-requires-clause-vertex c =
    let low = turn_low c.args.vertices.items c.loop-part.vertices.items c.pop.new.self.items c.in-Some.part c.args.self.now c.loop-part.self c.swap_label.new.self c.loop-part.invariant c.in-Some.ensures.items c.requires.n (names_labelled _ _ _ _ c.swap_label.ensures.graph) in
    omega (arith, c.len.ensures, c.pop.new.self.ok.0, low)

pub fill_vertex-requires-clause-names : goal.fill_vertex-requires-clause-names
fill_vertex-requires-clause-names c =
    turn_names c.args.vertices.items c.loop-part.vertices.items c.pop.new.self.items c.in-Some.part c.args.self.now c.loop-part.self c.swap_label.new.self c.loop-part.invariant c.in-Some.ensures.items (names_labelled _ _ _ _ c.swap_label.ensures.graph) c.requires.names

pub loop-part-preserved : goal.loop-part-preserved
loop-part-preserved c =
    let at : c.len.result ≡ length c.pop.new.self.items = c.len.ensures ∙ c.pop.new.self.ok.0 in
    filled_more c.args.vertices.items c.loop-part.vertices.items c.pop.new.self.items c.in-Some.part c.args.self.now c.loop-part.self c.swap_label.new.self c.fill_vertex.new.self c.loop-part.invariant c.in-Some.ensures.items c.requires.n
    (c.swap_label.ensures.graph ∙ ap (λ v. with_label c.loop-part.self v c.in-Some.part.label) at)
    (c.fill_vertex.ensures.filled ∙ ap (λ v. with_filled_vertex c.swap_label.new.self v c.in-Some.part.fields) at)
    c.fill_vertex.ensures.sound

pub returns : goal.returns
returns c = filling_ends c.args.vertices.items _ c.args.self.now _ c.loop-part.invariant (empty_of c.loop-part.vertices.items (omega (arith, c.loop-part.vertices.ok.0, c.in_default.ensures.cases.0)))
