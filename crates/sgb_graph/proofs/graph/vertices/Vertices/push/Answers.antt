use Rattle.std.proofs.Common.{◌∙◌, arith}
use Rattle.sgb_graph.proofs.Vertices.{vertex_pushed}
use Rattle.sgb_graph.proofs.graph.vertices.Vertices.push.Goals as goal

pub returns-clause-ok : goal.returns-clause-ok
returns-clause-ok c =
    let a = c.self.inside in
    vertex_pushed a.labels.items c.make_room.new.labels.items c.push_reserved.new.self.items a.firsts.items c.make_room.new.firsts.items c.push_reserved-2.new.self.items
    a.fields.items c.make_room.new.fields.items c.put_last.new.fields.items c.args.self.now c.len.result c.args.label c.none.result c.args.fields c.self.view_is
    (omega (arith, a.labels.ok.0, a.firsts.ok.0, c.self.invariant.0)) c.make_room.ensures.labels c.make_room.ensures.firsts c.make_room.ensures.fields
    (c.len.ensures ∙ (c.make_room.ensures.labels_len ∙ a.labels.ok.0)) c.put_last.ensures.puts c.push_reserved.ensures.items c.push_reserved-2.ensures.items c.none.ensures
