use Rattle.std.proofs.Common.{ap, ◌∙◌, subst, sym, Some}
use Rattle.sgb_session.proofs.Tables.{becomes_in_slot}
use Rattle.sgb_session.proofs.table.edit_slot.Goals as goal
use Rattle.sgb_session.specs.Private.Making.{Edits}

pub returns : goal.returns
returns c =
    becomes_in_slot (Edits c.args.edit.now c.make_edit.result) c.args.slots.now c.args.place _ _ c.make_edit.new.graph
    c.requires.place (c.in-Some.is ∙ ap Some (sym c.entry.view_is)) (subst (λ g. Edits c.args.edit.now c.make_edit.result g c.make_edit.new.graph) c.deref_mut.ensures.value c.make_edit.ensures)
