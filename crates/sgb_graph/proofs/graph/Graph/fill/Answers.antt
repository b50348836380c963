use Rattle.std.proofs.Common.{◌∙◌, sym, subst}
use Rattle.sgb_graph.specs.Edit.{stored}
use Rattle.sgb_graph.specs.Private.Fill.{SameNames}
use Rattle.sgb_graph.proofs.FieldValues.{filled_by_zero, names-with_util, accepted_place, on_ok}
use Rattle.sgb_graph.proofs.graph.Graph.fill.Goals as goal

pub stays_zero-requires : goal.stays_zero-requires
stays_zero-requires c = accepted_place c.args.self.now c.args.place c.args.value c.requires

pub returns-then-not-stays_zero-clause-names : goal.returns-then-not-stays_zero-clause-names
returns-then-not-stays_zero-clause-names c =
    let g = c.args.self.now in
    subst (SameNames g) (sym (on_ok _ _ _ _ c.set_util-done.ensures.graph (sym c.if-prove.ensures.value))) (names-with_util g c.args.place (stored c.args.value) (accepted_place g c.args.place c.args.value c.requires))

pub returns-else-not-stays_zero-clause-value : goal.returns-else-not-stays_zero-clause-value
returns-else-not-stays_zero-clause-value c =
    filled_by_zero c.args.self.now c.args.place c.args.value c.requires (sym c.stays_zero.ensures ∙ c.if-not-stays_zero.false)
