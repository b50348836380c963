use Rattle.std.proofs.Common.{ap, ◌∙◌, subst, sym, Some}
use Rattle.sgb_session.proofs.Tables.{becomes_in_slot}
use Rattle.sgb_session.proofs.table.lengthen_slot.Goals as goal
use Rattle.sgb_session.specs.Private.Working.{Lengthens}

pub returns : goal.returns
returns c =
    becomes_in_slot (λ g h. Lengthens c.args.spec.now c.args.seed c.args.generator.now c.lengths.new.self g h c.lengths.result) c.args.slots.now c.args.place _
    _ c.lengths.new.graph c.requires.place (c.in-Some.is ∙ ap Some (sym c.entry.view_is))
    (subst (λ g. Lengthens c.args.spec.now c.args.seed c.args.generator.now c.lengths.new.self g c.lengths.new.graph c.lengths.result) c.deref_mut.ensures.value c.lengths.ensures)
