use Rattle.std.proofs.Common.{◌≡◌, ◌<◌, ◌∙◌, ap, sym, subst, arith, length, set, Some, to_z, of_z}
use Rattle.std.specs.Int.{w64}
use Rattle.sgb_graph.specs.declared.field.Tip.{Tip}
use Rattle.sgb_graph.specs.declared.graph.arena.Slot.{Slot}
use Rattle.sgb_graph.specs.Edit.{with_cut_arc}
use Rattle.sgb_graph.specs.Private.Arena.{Shows, IsLinked, numbers}
use Rattle.sgb_graph.specs.declared.field.Util.TheVariants.{Zero}
use Rattle.sgb_graph.specs.Private.Link.{any_vertex, value_at, number_before, slots_gaining, slots_relinked, vertices_relinked}
use Rattle.sgb_graph.specs.Graph.{arcs_of, n_of, made_of}
use Rattle.sgb_graph.proofs.Slots.{length-gaining, length-relinked}
use Rattle.sgb_graph.proofs.ShowsPut.{first_room, second_room, put_linked, put_back_done, before_within, low_tip}
use Rattle.sgb_graph.proofs.graph.link.put_back.Goals as goal

pub gain_names-requires-clause-first : goal.gain_names-requires-clause-first
gain_names-requires-clause-first c =
    let r = c.requires in
    first_room _ _ r.graph (value_at c.args.cut.fields 0) r.shows r.sound (r.can.arc.values 0 Zero (omega (arith, r.can.arc.two)))

pub gain_names-requires-clause-second : goal.gain_names-requires-clause-second
gain_names-requires-clause-second c =
    let r = c.requires in
    second_room _ _ r.graph (value_at c.args.cut.fields 0) (value_at c.args.cut.fields 1) r.shows r.sound (r.can.arc.values 1 Zero (omega (arith, r.can.arc.two)))

pub number_before-before-requires : goal.number_before-before-requires
number_before-before-requires c =
    let r = c.requires in
    subst (IsLinked c.gain_names.new.slots) (sym c.first.ensures)
    (put_linked c.args.vertices.now c.args.slots.now c.gain_names.new.slots r.graph c.args.cut any_vertex r.shows r.sound r.can c.gain_names.ensures).0

pub replace_link-next-requires-clause-before : goal.replace_link-next-requires-clause-before
replace_link-next-requires-clause-before c = λ p e.
    let r = c.requires in
    let same = (put_linked c.args.vertices.now c.args.slots.now c.gain_names.new.slots r.graph c.args.cut any_vertex r.shows r.sound r.can c.gain_names.ensures).1 in
    let is : c.number_before-before.result ≡ number_before (arcs_of r.graph c.args.cut.owner.0) c.args.cut.place =
    (c.number_before-before.ensures ∙ ap (λ link. number_before (numbers c.gain_names.new.slots link) c.args.cut.place) c.first.ensures) ∙ ap (λ ks. number_before ks c.args.cut.place) same in
    let low : p.0 < made_of r.graph = before_within r.graph c.args.cut.owner.0 c.args.cut.place _ r.sound is r.can.place p e in
    omega (arith, low, r.shows.made, ap length c.gain_names.ensures, length-gaining c.args.slots.now (value_at c.args.cut.fields 0), length-gaining (slots_gaining c.args.slots.now (value_at c.args.cut.fields 0)) (value_at c.args.cut.fields 1))

pub to-requires : goal.to-requires
to-requires c = omega (arith, c.requires.can.made, c.requires.sound.few_arcs)

pub new-requires : goal.new-requires
new-requires c = low_tip (n_of c.requires.graph) c.args.cut.tip c.requires.sound.few_vertices c.requires.can.arc.tip

pub put-requires-clause-number : goal.put-requires-clause-number
put-requires-clause-number c =
    let r = c.requires in
    omega (
      arith,
      r.can.made,
      r.shows.made,
      ap length c.replace_link-next.ensures.slots,
      length-relinked c.gain_names.new.slots c.number_before-before.result c.to.result,
      ap length c.gain_names.ensures,
      length-gaining c.args.slots.now (value_at c.args.cut.fields 0),
      length-gaining (slots_gaining c.args.slots.now (value_at c.args.cut.fields 0)) (value_at c.args.cut.fields 1),
    )

pub put-requires-clause-owner : goal.put-requires-clause-owner
put-requires-clause-owner c = omega (arith, c.requires.can.owner, c.requires.sound.few_vertices)

pub returns : goal.returns
returns c = λ g shows sound can.
    let number = c.args.cut.number in
    let before = c.number_before-before.result in
    let slot : Tip → Slot = λ t. record { owner = c.args.cut.owner; tip = t; next = c.replace_link-next.result; names = 0; len = to_z w64 (of_z w64 c.args.cut.len); fields = c.args.cut.fields } in
    let done : Shows c.replace_link-next.new.vertices (set c.replace_link-next.new.slots number.0 (Some (slot c.args.cut.tip))) (with_cut_arc g c.args.cut) =
    put_back_done c.args.vertices.now c.replace_link-next.new.vertices c.args.slots.now c.gain_names.new.slots c.replace_link-next.new.slots g c.args.cut any_vertex before c.replace_link-next.result shows sound can
    c.gain_names.ensures (c.number_before-before.ensures ∙ ap (λ link. number_before (numbers c.gain_names.new.slots link) c.args.cut.place) c.first.ensures) c.replace_link-next.ensures.old
    (c.replace_link-next.ensures.vertices ∙ ap (vertices_relinked c.args.vertices.now c.args.cut.owner.0 before) c.to.ensures)
    (c.replace_link-next.ensures.slots ∙ ap (slots_relinked c.gain_names.new.slots before) c.to.ensures) in
    subst (λ l. Shows c.replace_link-next.new.vertices l (with_cut_arc g c.args.cut))
    (sym (c.put.ensures ∙ ap (λ t. set c.replace_link-next.new.slots number.0 (Some (slot t))) c.new.ensures)) done
