use Rattle.std.proofs.Common.{◌∙◌, ap, FitsSigned, rules}
use Rattle.std.specs.Int.{w64}
use Rattle.std.proofs.lemmas.Int.{to_z-of_z}
use Rattle.sgb_graph.specs.Private.Fill.{with_aim}
use Rattle.sgb_graph.specs.declared.field.ArcField.TheVariants as arcs
use Rattle.sgb_graph.specs.declared.field.Place.TheVariants as places
use Rattle.sgb_graph.proofs.FieldValues.{names_then, accepted, arc_filled, two_named, arc_two, part_leads, part_values}
use Rattle.sgb_graph.proofs.graph.Graph.fill_arc.Goals as goal

pub aim-requires-clause-tip : goal.aim-requires-clause-tip
aim-requires-clause-tip c = part_leads c.args.self.now c.args.part c.requires.names

pub fill-requires : goal.fill-requires
fill-requires c =
    let x = two_named c.args.self.now c.args.part.fields _ _ c.two-a.ensures (part_values c.args.self.now c.args.part c.requires.names) in
    accepted c.args.self.now _ (places.Arc c.args.number arcs.A) _ c.aim.ensures.names c.requires.live x.0

pub fill-requires-2 : goal.fill-requires-2
fill-requires-2 c =
    let x = two_named c.args.self.now c.args.part.fields _ _ c.two-a.ensures (part_values c.args.self.now c.args.part c.requires.names) in
    accepted c.args.self.now _ (places.Arc c.args.number arcs.B) _ (names_then _ _ _ c.aim.ensures.names c.fill.ensures.names) c.requires.live x.1

pub returns-clause-filled : goal.returns-clause-filled
returns-clause-filled c =
    let fits : FitsSigned w64 c.args.part.len = search rules in
    arc_filled c.args.self.now _ _ _ c.args.number c.args.part _ _ c.requires.live (arc_two _ c.args.number.0 c.fill.ensures.before (c.aim.ensures.names.live c.args.number.0 ∙ c.requires.live)) c.two-a.ensures (c.aim.ensures.value ∙ ap (with_aim c.args.self.now c.args.number.0 c.args.part.tip) (to_z-of_z w64 c.args.part.len fits)) c.fill.ensures.value c.fill-2.ensures.value
