use Rattle.std.proofs.Common.{ap, ◌∙◌, subst, sym, length, map}
use Rattle.arrayvec.specs.ArrayVec.{with_items}
use Rattle.arrayvec.proofs.ArrayVecLemmas.{items-with_items}
use Rattle.sgb_session.proofs.Tables.{becomes_shown}
use Rattle.sgb_session.proofs.table.Table.edit.Goals as goal
use Rattle.sgb_session.specs.Private.Making.{AtPlace, InSlot, Edits}
use Rattle.sgb_session.specs.Private.Slots.{held}

pub returns : goal.returns
returns c =
    let ss = c.self.inside.entries.items in
    let edits = Edits c.args.edit.now c.edit_slot.result in
    let ts = (with_items c.self.inside.entries c.edit_slot.new.slots).items in
    let items = items-with_items c.self.inside.entries c.edit_slot.new.slots (c.edit_slot.auto.slots ∙ ap length c.as_mut_slice.ensures.value) in
    let made = subst (λ xs. InSlot edits xs c.edit_slot.new.slots c.args.place) c.as_mut_slice.ensures.value c.edit_slot.ensures in
    subst (λ t. AtPlace edits t (map held ts) c.args.place) c.self.view_is
    (becomes_shown edits ss ts c.args.place (subst (λ xs. InSlot edits ss xs c.args.place) (sym items) made))
