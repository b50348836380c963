use Rattle.std.proofs.Common.{ap, ◌∙◌, subst, sym, length, map}
use Rattle.arrayvec.specs.ArrayVec.{with_items}
use Rattle.arrayvec.proofs.ArrayVecLemmas.{items-with_items}
use Rattle.sgb_graph.specs.Graph.{GraphOf}
use Rattle.sgb_session.proofs.Tables.{becomes_shown}
use Rattle.sgb_session.proofs.table.Table.lengthen.Goals as goal
use Rattle.sgb_session.specs.Private.Making.{AtPlace, InSlot}
use Rattle.sgb_session.specs.Private.Slots.{held}
use Rattle.sgb_session.specs.Private.Working.{Lengthens}

pub returns : goal.returns
returns c =
    let ss = c.self.inside.entries.items in
    let lengthens = λ (g h : GraphOf). Lengthens c.args.spec.now c.args.seed c.args.generator.now c.lengthen_slot.new.generator g h c.lengthen_slot.result in
    let ts = (with_items c.self.inside.entries c.lengthen_slot.new.slots).items in
    let items = items-with_items c.self.inside.entries c.lengthen_slot.new.slots (c.lengthen_slot.auto.slots ∙ ap length c.as_mut_slice.ensures.value) in
    let made = subst (λ xs. InSlot lengthens xs c.lengthen_slot.new.slots c.args.place) c.as_mut_slice.ensures.value c.lengthen_slot.ensures in
    subst (λ t. AtPlace lengthens t (map held ts) c.args.place) c.self.view_is
    (becomes_shown lengthens ss ts c.args.place (subst (λ xs. InSlot lengthens ss xs c.args.place) (sym items) made))
