use Rattle.std.proofs.Common.{◌≡◌, ap, ◌∙◌, sym, length, map}
use Rattle.arrayvec.proofs.ArrayVecLemmas.{items-with_items}
use Rattle.sgb_combine.specs.Lengths.{before_lengths}
use Rattle.sgb_session.specs.declared.table.Entry.{Entry}
use Rattle.sgb_session.specs.Table.{graph_in, with_graph}
use Rattle.sgb_session.proofs.Tables.{slot_edited, entry_shown}
use Rattle.sgb_session.proofs.table.Table.revert_lengths.Goals as goal
use Rattle.sgb_session.specs.Private.Slots.{held, slot_in, slot_with_graph}

pub returns : goal.returns
returns c =
    let ss = c.self.inside.entries.items in
    let i = c.args.place in
    let items = items-with_items c.self.inside.entries c.revert_lengths_in_slot.new.slots (c.revert_lengths_in_slot.auto.slots ∙ ap length c.as_mut_slice.ensures.value) in
    let left : c.revert_lengths_in_slot.new.slots ≡ slot_with_graph ss i (before_lengths c.args.delta (held (slot_in ss i)).graph) =
    c.revert_lengths_in_slot.ensures ∙ ap (λ xs. slot_with_graph xs i (before_lengths c.args.delta (held (slot_in xs i)).graph)) c.as_mut_slice.ensures.value in
    ap (map held) (items ∙ left)
    ∙ (slot_edited ss i (before_lengths c.args.delta (held (slot_in ss i)).graph)
    ∙ (ap (λ (x : Entry). with_graph (map held ss) i (before_lengths c.args.delta x.graph)) (sym (entry_shown ss i))
    ∙ ap (λ t. with_graph t i (before_lengths c.args.delta (graph_in t i))) c.self.view_is))
