use Rattle.std.proofs.Common.{◌≡◌, ap, ◌∙◌, sym, length, map}
use Rattle.arrayvec.proofs.ArrayVecLemmas.{items-with_items}
use Rattle.sgb_graph.specs.Reverted.{reverted}
use Rattle.sgb_session.specs.declared.table.Entry.{Entry}
use Rattle.sgb_session.specs.Table.{graph_in, with_graph}
use Rattle.sgb_session.proofs.Tables.{slot_edited, entry_shown}
use Rattle.sgb_session.proofs.table.Table.revert.Goals as goal
use Rattle.sgb_session.specs.Private.Slots.{held, slot_in, slot_with_graph}

pub returns : goal.returns
returns c =
    let ss = c.self.inside.entries.items in
    let i = c.args.place in
    let items = items-with_items c.self.inside.entries c.revert_slot.new.slots (c.revert_slot.auto.slots ∙ ap length c.as_mut_slice.ensures.value) in
    let left : c.revert_slot.new.slots ≡ slot_with_graph ss i (reverted (held (slot_in ss i)).graph c.args.delta) =
    c.revert_slot.ensures ∙ ap (λ xs. slot_with_graph xs i (reverted (held (slot_in xs i)).graph c.args.delta)) c.as_mut_slice.ensures.value in
    ap (map held) (items ∙ left)
    ∙ (slot_edited ss i (reverted (held (slot_in ss i)).graph c.args.delta)
    ∙ (ap (λ (x : Entry). with_graph (map held ss) i (reverted x.graph c.args.delta)) (sym (entry_shown ss i))
    ∙ ap (λ t. with_graph t i (reverted (graph_in t i) c.args.delta)) c.self.view_is))
