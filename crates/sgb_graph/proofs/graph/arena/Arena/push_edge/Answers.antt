use Rattle.std.proofs.Common.{◌≡◌, ◌+◌, ◌∙◌, ap, arith, subst, List, Option, None, Some}
use Rattle.std.specs.Int.{w64}
use Rattle.std.proofs.lemmas.Int.{to_z-of_z}
use Rattle.std.proofs.lemmas.Result.{err_from_is_err_and}
use Rattle.sgb_graph.specs.declared.field.VertexNo.{VertexNo}
use Rattle.sgb_graph.specs.declared.field.ArcNo.{ArcNo}
use Rattle.sgb_graph.specs.declared.graph.Vertex.{Vertex}
use Rattle.sgb_graph.specs.Field.{arc_no}
use Rattle.sgb_graph.specs.Private.Cells.{new_cell}
use Rattle.sgb_graph.specs.Private.Insert.{IsRefusedAt, vertex_no}
use Rattle.sgb_graph.specs.Private.Link.{vertex_in, vertices_relinked}
use Rattle.sgb_graph.proofs.Cells.{many_slots}
use Rattle.sgb_graph.proofs.NewArcs.{edge_joins}
use Rattle.sgb_graph.proofs.graph.arena.Arena.push_edge.Goals as goal

pub returns-in_err-make_room-clause-err : goal.returns-in_err-make_room-clause-err
returns-in_err-make_room-clause-err c =
    let p = err_from_is_err_and c.from_residual.result c.from_residual.ensures.1 in
    rw (p.1, p.2) (subst (λ n. IsRefusedAt (n + 2) c.in_err-make_room.field-0.0) (many_slots c.self.inside.cells.items c.self.inside.fields.items c.self.view_is c.self.inside.cells.ok.0) c.in_err-make_room.ensures.err)

pub returns-clause-joined : goal.returns-clause-joined
returns-clause-joined c =
    let a = c.self.inside in
    let low : VertexNo = vertex_no c.min.result in
    let high : VertexNo = vertex_no c.max.result in
    let vs = c.args.vertices.now in
    let us = c.replace_first-after_high.new.self in
    let k = c.len.result in
    let same = to_z-of_z w64 c.args.len c.ranges.len in
    let us_is : us ≡ vertices_relinked vs high.0 None (Some (arc_no (k + 1))) = c.replace_first-after_high.ensures.vertices ∙ ap (vertices_relinked vs high.0 None) c.to.ensures in
    edge_joins vs c.replace_first-after_low.new.self a.cells.items c.make_room.new.cells.items c.push_reserved.new.self.items c.push_reserved-2.new.self.items a.fields.items c.make_room.new.fields.items c.args.self.now
    c.args.from.0 c.args.to.0 low.0 high.0 c.args.len k c.new_cell.result c.new_cell-2.result
    (record { view = c.self.view_is; few = omega (arith, c.self.invariant.0, a.cells.ok.0, a.fields.ok.0); cells = c.make_room.ensures.cells; fields = c.make_room.ensures.fields })
    (c.len.ensures ∙ c.make_room.new.cells.ok.0) c.min.ensures c.max.ensures
    (c.replace_first-after_low.ensures.vertices
    ∙ (ap (vertices_relinked us low.0 None) c.to-2.ensures ∙ ap (λ (xs : List Vertex). vertices_relinked xs low.0 None (Some (arc_no k))) us_is))
    (c.new_cell.ensures
    ∙ (ap (new_cell low high c.replace_first-after_low.result) same
    ∙ ap (λ (l : Option ArcNo). new_cell low high l c.args.len) (c.replace_first-after_low.ensures.old ∙ ap (λ (xs : List Vertex). (vertex_in xs low.0).first) us_is)))
    c.push_reserved.ensures.items
    (c.new_cell-2.ensures ∙ (ap (new_cell high low c.replace_first-after_high.result) same ∙ ap (λ (l : Option ArcNo). new_cell high low l c.args.len) c.replace_first-after_high.ensures.old)) c.push_reserved-2.ensures.items

pub returns-clause-few : goal.returns-clause-few
returns-clause-few c =
    let a = c.self.inside in
    omega (arith, c.in_ok-make_room.ensures.most, many_slots c.self.inside.cells.items c.self.inside.fields.items c.self.view_is a.cells.ok.0)

pub invariant_of-self-2 : goal.invariant_of-self-2
invariant_of-self-2 c =
    let r = c.make_room.ensures in
    let ok = c.in_ok-make_room.ensures in
    let p = c.push_reserved.ensures in
    let q = c.push_reserved-2.ensures in (
      omega (arith, c.self.invariant.0, r.cells_len, r.fields_len, p.len, q.len),
      omega (arith, r.cells_len, ok.fields_room, p.len, q.len),
      omega (arith, r.cells_len, ok.most, p.len, q.len),
      c.self.invariant.3,
    )
