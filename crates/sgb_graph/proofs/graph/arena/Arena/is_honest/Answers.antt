use Rattle.std.proofs.Common.{◌∙◌, ap}
use Rattle.std.specs.List.{list_all, zip}
use Rattle.sgb_graph.specs.Honest.{are_allowed}
use Rattle.sgb_graph.specs.Private.Cells.{owned_allowed}
use Rattle.sgb_graph.specs.Private.Exchange.{fields_in}
use Rattle.sgb_graph.proofs.Cells.{zipped-honest}
use Rattle.sgb_graph.proofs.graph.arena.Arena.is_honest.Goals as goal

pub returns : goal.returns
returns c =
    let a = c.self.inside in
    let letters = c.args.letters.now in
    c.are_cells_honest.ensures
    ∙ (ap (λ cs. list_all (λ p. owned_allowed letters p.0.owner p.1) (zip cs c.deref-2.result.now)) c.deref.ensures.value
    ∙ (ap (λ fs. list_all (λ p. owned_allowed letters p.0.owner p.1) (zip a.cells.items fs)) c.deref-2.ensures.value
    ∙ (zipped-honest letters a.cells.items a.fields.items ∙ ap (list_all (λ o. are_allowed letters (fields_in o))) c.self.view_is)))
