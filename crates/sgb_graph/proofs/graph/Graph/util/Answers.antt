use Rattle.std.proofs.Common.{refl}
use Rattle.sgb_graph.proofs.SetLemmas.{util_vertex, util_arc, util_graph}
use Rattle.sgb_graph.proofs.graph.Graph.util.Goals as goal

pub returns-in-Vertex : goal.returns-in-Vertex
returns-in-Vertex c =
    util_vertex c.self.inside c.args.self.now c.args.place c.in-Vertex.vertex c.in-Vertex.field c.self.inside.vertices _ _ c.self.view_is c.self.invariant c.requires c.in-Vertex.is refl c.place.ensures c.field.ensures

pub returns-in-Arc : goal.returns-in-Arc
returns-in-Arc c =
    util_arc c.self.inside c.args.self.now c.args.place c.in-Arc.number c.in-Arc.field c.self.inside.slots _ _ c.self.view_is c.self.invariant c.requires c.in-Arc.is refl c.place-in-Arc.ensures c.field-in-Arc.ensures

pub returns-in-Graph : goal.returns-in-Graph
returns-in-Graph c =
    util_graph c.self.inside c.args.self.now c.args.place c.in-Graph.field _ _ c.self.view_is c.self.invariant c.in-Graph.is c.place-in-Graph.ensures
