use Rattle.std.proofs.Common.{◌∙◌, arith, None}
use Rattle.sgb_graph.proofs.Cells.{cells_low, live_low, fields_are, owned_none, slot_put}
use Rattle.sgb_graph.specs.Private.Cells.{two_zeros}
use Rattle.sgb_graph.proofs.graph.arena.Arena.clear.Goals as goal

pub index_mut-requires : goal.index_mut-requires
index_mut-requires c =
    let a = c.self.inside in
    omega (arith, cells_low a.cells.items a.fields.items c.args.self.now c.args.index c.self.view_is (live_low c.args.self.now c.args.index c.requires), a.cells.ok.0)

pub returns-clause-fields : goal.returns-clause-fields
returns-clause-fields c =
    let a = c.self.inside in
    c.take_fields.ensures.value ∙ fields_are a.cells.items a.fields.items c.args.self.now c.args.index c.self.view_is c.requires

pub returns-clause-slots : goal.returns-clause-slots
returns-clause-slots c =
    let a = c.self.inside in
    slot_put a.cells.items a.fields.items _ c.args.self.now c.args.index two_zeros _ None c.self.view_is c.take_fields.ensures.puts (owned_none two_zeros _ c.none.ensures)

pub invariant_of-self : goal.invariant_of-self
invariant_of-self c =
    let a = c.self.inside in (
      omega (arith, c.take_fields.ensures.len, c.self.invariant.0),
      omega (arith, c.self.invariant.1, c.take_fields.ensures.capacity),
      c.self.invariant.2,
      c.self.invariant.3,
    )
