use Rattle.std.proofs.Common.{◌+◌, ◌∙◌, ap, arith, subst, Option, None}
use Rattle.std.specs.Int.{w64}
use Rattle.std.proofs.lemmas.Int.{to_z-of_z}
use Rattle.std.proofs.lemmas.Result.{err_from_is_err_and}
use Rattle.sgb_graph.specs.declared.field.ArcNo.{ArcNo}
use Rattle.sgb_graph.specs.Private.Cells.{new_cell}
use Rattle.sgb_graph.specs.Private.Insert.{IsRefusedAt}
use Rattle.sgb_graph.specs.Private.Link.{vertices_relinked}
use Rattle.sgb_graph.proofs.Cells.{many_slots}
use Rattle.sgb_graph.proofs.NewArcs.{arc_joins}
use Rattle.sgb_graph.proofs.graph.arena.Arena.push_arc.Goals as goal

pub returns-in_err-make_room-clause-err : goal.returns-in_err-make_room-clause-err
returns-in_err-make_room-clause-err c =
    let p = err_from_is_err_and c.from_residual.result c.from_residual.ensures.1 in
    rw (p.1, p.2) (subst (λ n. IsRefusedAt (n + 1) c.in_err-make_room.field-0.0) (many_slots c.self.inside.cells.items c.self.inside.fields.items c.self.view_is c.self.inside.cells.ok.0) c.in_err-make_room.ensures.err)

pub returns-clause-joined : goal.returns-clause-joined
returns-clause-joined c =
    let a = c.self.inside in
    let from = c.args.from in
    let same = to_z-of_z w64 c.args.len c.ranges.len in
    arc_joins c.args.vertices.now c.replace_first-next.new.self a.cells.items c.make_room.new.cells.items c.push_reserved.new.self.items a.fields.items c.make_room.new.fields.items c.args.self.now from c.args.to c.args.len c.len.result c.new_cell.result
    (record { view = c.self.view_is; few = omega (arith, c.self.invariant.0, a.cells.ok.0, a.fields.ok.0); cells = c.make_room.ensures.cells; fields = c.make_room.ensures.fields })
    (c.len.ensures ∙ c.make_room.new.cells.ok.0)
    (c.replace_first-next.ensures.vertices ∙ ap (vertices_relinked c.args.vertices.now from.0 None) c.to.ensures)
    (c.new_cell.ensures ∙ (ap (new_cell from c.args.to c.replace_first-next.result) same ∙ ap (λ (l : Option ArcNo). new_cell from c.args.to l c.args.len) c.replace_first-next.ensures.old))
    c.push_reserved.ensures.items

pub returns-clause-few : goal.returns-clause-few
returns-clause-few c =
    let a = c.self.inside in
    omega (arith, c.in_ok-make_room.ensures.most, many_slots c.self.inside.cells.items c.self.inside.fields.items c.self.view_is a.cells.ok.0)

pub invariant_of-self-2 : goal.invariant_of-self-2
invariant_of-self-2 c =
    let r = c.make_room.ensures in
    let ok = c.in_ok-make_room.ensures in
    let p = c.push_reserved.ensures in (
      omega (arith, c.self.invariant.0, r.cells_len, r.fields_len, p.len),
      omega (arith, r.cells_len, ok.fields_room, p.len),
      omega (arith, r.cells_len, ok.most, p.len),
      c.self.invariant.3,
    )
