use Rattle.std.proofs.Common.{◌∙◌, ℤ, ap, arith, Some, to_z, of_z}
use Rattle.std.specs.Int.{w64}
use Rattle.std.proofs.lemmas.Int.{to_z-of_z}
use Rattle.sgb_graph.proofs.Cells.{cells_low, owned_some, slot_put}
use Rattle.sgb_graph.specs.declared.graph.arena.Cell.{Cell}
use Rattle.sgb_graph.specs.Private.Cells.{unnamed_slot}
use Rattle.sgb_graph.proofs.graph.arena.Arena.put.Goals as goal

pub put_fields-requires : goal.put_fields-requires
put_fields-requires c =
    let a = c.self.inside in
    omega (arith, cells_low a.cells.items a.fields.items c.args.self.now c.args.number.0 c.self.view_is c.requires.number, a.cells.ok.0, c.self.invariant.1)

pub index_mut-requires : goal.index_mut-requires
index_mut-requires c =
    let a = c.self.inside in
    omega (arith, cells_low a.cells.items a.fields.items c.args.self.now c.args.number.0 c.self.view_is c.requires.number, a.cells.ok.0)

pub invariant_of-self : goal.invariant_of-self
invariant_of-self c =
    let a = c.self.inside in
    let low = cells_low a.cells.items a.fields.items c.args.self.now c.args.number.0 c.self.view_is c.requires.number in (
      omega (arith, low, a.cells.ok.0, c.self.invariant.0, c.put_fields.ensures.len),
      omega (arith, c.self.invariant.1, c.put_fields.ensures.capacity),
      c.self.invariant.2,
      c.self.invariant.3,
    )

pub returns : goal.returns
returns c =
    let a = c.self.inside in
    let us = c.args.fields in
    let cell : ℤ → Cell = λ z. record { owner = c.new.result; tip = c.args.tip; next = c.args.next; names = 0; len = z } in
    let z = to_z w64 (of_z w64 c.args.len) in
    slot_put a.cells.items a.fields.items _ c.args.self.now c.args.number.0 us (cell z) (Some (unnamed_slot c.args.owner c.args.tip c.args.next c.args.len us)) c.self.view_is c.put_fields.ensures.puts
    (owned_some us (cell z) c.args.owner c.new.ensures ∙ ap (λ y. Some (unnamed_slot c.args.owner c.args.tip c.args.next y us)) (to_z-of_z w64 c.args.len c.ranges.len))
