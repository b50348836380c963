use Rattle.std.proofs.Common.{◌≡◌, ap, ◌∙◌, subst, sym, Some}
use Rattle.sgb_graph.specs.Graph.{GraphOf}
use Rattle.sgb_graph.specs.Delta.{LeftBy}
use Rattle.sgb_session.proofs.Tables.{reverted_in_slot}
use Rattle.sgb_session.proofs.table.revert_slot.Goals as goal

pub returns : goal.returns
returns c =
    reverted_in_slot c.args.slots.now c.args.place _ _ c.args.delta c.revert.new.self c.requires.place (c.in-Some.is ∙ ap Some (sym c.entry.view_is)) c.requires.left
    (subst (λ h. (g : GraphOf) → LeftBy g c.args.delta h → c.revert.new.self ≡ g) c.deref_mut.ensures.value c.revert.ensures.back)
