use Rattle.std.proofs.Common.{◌∙◌, ap, sym, subst, to_z, of_z}
use Rattle.std.specs.Prelude.{◌==◌}
use Rattle.std.specs.List.{position_or_len}
use Rattle.sgb_graph.specs.Private.Arena.{IsLinked, numbers}
use Rattle.sgb_graph.specs.Private.Link.{any_vertex, number_before}
use Rattle.std.specs.Int.{w64}
use Rattle.sgb_graph.specs.declared.field.Tip.{Tip}
use Rattle.sgb_graph.specs.declared.delta.CutArc.{CutArc}
use Rattle.sgb_graph.proofs.ShowsTake.{take_facts, take_out_done, lose_room_at, before_in}
use Rattle.sgb_graph.proofs.graph.link.take_out.Goals as goal

pub place_in-place-requires-clause-linked : goal.place_in-place-requires-clause-linked
place_in-place-requires-clause-linked c =
    subst (IsLinked c.args.slots.now) (sym c.first-first.ensures)
    (take_facts c.args.vertices.now c.args.slots.now c.requires.graph c.args.number.0 c.owner_at-owner.result any_vertex c.requires.shows c.requires.sound c.owner_at-owner.ensures).linked

pub replace_link-requires-clause-before : goal.replace_link-requires-clause-before
replace_link-requires-clause-before c =
    before_in c.args.vertices.now c.args.slots.now _ c.requires.graph c.args.number c.owner_at-owner.result any_vertex c.place_in-place.result.0 c.place_in-place.result.1
    c.requires.shows c.requires.sound c.owner_at-owner.ensures (c.place_in-place.ensures.place ∙ ap (λ link. position_or_len (λ j. j == c.args.number.0) (numbers c.args.slots.now link)) c.first-first.ensures) (c.place_in-place.ensures.before ∙ ap (λ link. number_before (numbers c.args.slots.now link) c.place_in-place.result.0) c.first-first.ensures) c.remove-slot.ensures.slots

pub lose_names-requires-clause-first : goal.lose_names-requires-clause-first
lose_names-requires-clause-first c =
    (lose_room_at c.args.vertices.now c.args.slots.now c.remove-slot.new.self c.replace_link.new.slots c.requires.graph c.args.number c.owner_at-owner.result any_vertex c.place_in-place.result.1 c.remove-slot.result
    c.requires.shows c.requires.sound c.owner_at-owner.ensures c.remove-slot.ensures.slot c.remove-slot.ensures.slots c.replace_link.ensures.slots).first

pub lose_names-requires-clause-second : goal.lose_names-requires-clause-second
lose_names-requires-clause-second c =
    (lose_room_at c.args.vertices.now c.args.slots.now c.remove-slot.new.self c.replace_link.new.slots c.requires.graph c.args.number c.owner_at-owner.result any_vertex c.place_in-place.result.1 c.remove-slot.result
    c.requires.shows c.requires.sound c.owner_at-owner.ensures c.remove-slot.ensures.slot c.remove-slot.ensures.slots c.replace_link.ensures.slots).second

pub returns : goal.returns
returns c = λ g shows sound can.
    let r = take_out_done c.args.vertices.now _ c.args.slots.now _ _ _ g c.args.number c.owner_at-owner.result any_vertex c.place_in-place.result.0 c.place_in-place.result.1 c.remove-slot.result
    shows sound c.owner_at-owner.ensures c.remove-slot.ensures.slot (c.place_in-place.ensures.place ∙ ap (λ link. position_or_len (λ j. j == c.args.number.0) (numbers c.args.slots.now link)) c.first-first.ensures) (c.place_in-place.ensures.before ∙ ap (λ link. number_before (numbers c.args.slots.now link) c.place_in-place.result.0) c.first-first.ensures)
    c.remove-slot.ensures.slots c.replace_link.ensures.vertices c.replace_link.ensures.slots c.lose_names.ensures in
    let slot = c.remove-slot.result in
    let cut : Tip → CutArc = λ t. record { number = c.args.number; owner = slot.owner; place = c.place_in-place.result.0; tip = t; len = to_z w64 (of_z w64 slot.len); fields = slot.fields } in
    (ap cut c.get.ensures ∙ r.cut, r.shows)
