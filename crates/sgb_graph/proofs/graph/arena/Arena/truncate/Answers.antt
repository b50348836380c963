use Rattle.std.proofs.Common.{◌∙◌, ap, take, arith}
use Rattle.sgb_graph.proofs.Cells.{zipped-take}
use Rattle.sgb_graph.specs.Private.Cells.{zipped}
use Rattle.sgb_graph.proofs.graph.arena.Arena.truncate.Goals as goal

pub returns : goal.returns
returns c =
    let a = c.self.inside in
    ap (λ l. zipped l c.truncate-2.new.self.items) c.truncate.ensures.items
    ∙ (ap (zipped (take c.args.len a.cells.items)) c.truncate-2.ensures.items
    ∙ (zipped-take c.args.len a.cells.items a.fields.items ∙ ap (take c.args.len) c.self.view_is))

pub invariant_of-self : goal.invariant_of-self
invariant_of-self c =
    let a = c.self.inside in (
      omega (arith, c.self.invariant.0, c.truncate.ensures.len, c.truncate-2.ensures.len),
      omega (arith, c.self.invariant.1, c.truncate.ensures.len, c.truncate-2.ensures.capacity),
      omega (arith, c.self.invariant.2, c.truncate.ensures.len),
      c.self.invariant.3,
    )
