use Rattle.std.proofs.Common.{ap, ◌∙◌, sym, Some}
use Rattle.sgb_combine.specs.Lengths.{before_lengths}
use Rattle.sgb_session.proofs.Tables.{written_in_slot}
use Rattle.sgb_session.proofs.table.revert_lengths_in_slot.Goals as goal

pub returns : goal.returns
returns c =
    written_in_slot (before_lengths c.args.delta) c.args.slots.now c.args.place _ _ c.revert_lengths.new.graph c.requires.place (c.in-Some.is ∙ ap Some (sym c.entry.view_is))
    (c.revert_lengths.ensures.graph ∙ ap (before_lengths c.args.delta) c.deref_mut.ensures.value)
