use Rattle.std.proofs.Common.{◌∙◌, arith, ap, length, get_or}
use Rattle.sgb_graph.proofs.Cells.{cells_low, fields_are, field_put, some_of_two}
use Rattle.sgb_graph.specs.declared.field.Util.TheVariants as utils
use Rattle.sgb_graph.proofs.graph.arena.Arena.replace_field.Goals as goal

pub replace_kept-requires-clause-room : goal.replace_kept-requires-clause-room
replace_kept-requires-clause-room c =
    let a = c.self.inside in
    omega (arith, cells_low a.cells.items a.fields.items c.args.self.now c.args.number.0 c.self.view_is c.requires.number, a.cells.ok.0, c.self.invariant.1)

pub replace_kept-requires-clause-fields : goal.replace_kept-requires-clause-fields
replace_kept-requires-clause-fields c =
    let a = c.self.inside in
    ap length (fields_are a.cells.items a.fields.items c.args.self.now c.args.number.0 c.self.view_is (some_of_two _ c.requires.fields)) ∙ c.requires.fields

pub invariant_of-self : goal.invariant_of-self
invariant_of-self c =
    let a = c.self.inside in
    let low = cells_low a.cells.items a.fields.items c.args.self.now c.args.number.0 c.self.view_is c.requires.number in
    (omega (arith, low, a.cells.ok.0, c.self.invariant.0, c.replace_kept.ensures.len), omega (arith, c.self.invariant.1, c.replace_kept.ensures.capacity), c.self.invariant.2, c.self.invariant.3)

pub returns-clause-old : goal.returns-clause-old
returns-clause-old c =
    let a = c.self.inside in
    c.replace_kept.ensures.old
    ∙ ap (λ us. get_or us c.args.place utils.Zero) (fields_are a.cells.items a.fields.items c.args.self.now c.args.number.0 c.self.view_is (some_of_two _ c.requires.fields))

pub returns-clause-slots : goal.returns-clause-slots
returns-clause-slots c =
    let a = c.self.inside in
    field_put a.cells.items a.fields.items _ c.args.self.now c.args.number.0 c.args.place c.args.value c.self.view_is c.requires.number c.replace_kept.ensures.puts
