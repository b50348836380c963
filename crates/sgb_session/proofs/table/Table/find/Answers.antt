use Rattle.std.proofs.Common.{ap, ◌∙◌}
use Rattle.std.specs.List.{position}
use Rattle.std.specs.Str.{bytes_eq}
use Rattle.sgb_session.specs.Table.{find}
use Rattle.sgb_session.proofs.Tables.{position-map}
use Rattle.sgb_session.proofs.table.Table.find.Goals as goal
use Rattle.sgb_session.specs.Private.Slots.{held}

pub returns : goal.returns
returns c =
    c.find_slot.ensures
    ∙ (ap (λ n. position (λ o. bytes_eq (held o).name n) c.as_slice.result.now) c.bytes.ensures.value
    ∙ (ap (position (λ o. bytes_eq (held o).name c.args.name.now)) c.as_slice.ensures.value
    ∙ (position-map held (λ e. bytes_eq e.name c.args.name.now) c.self.inside.entries.items ∙ ap (λ t. find t c.args.name.now) c.self.view_is)))
