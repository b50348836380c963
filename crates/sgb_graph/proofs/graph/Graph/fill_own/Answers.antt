use Rattle.std.proofs.Common.{refl}
use Rattle.sgb_graph.specs.declared.field.GraphField.TheVariants as own
use Rattle.sgb_graph.specs.declared.field.Place.TheVariants as places
use Rattle.sgb_graph.proofs.FieldValues.{six_of, six_named, names_refl, names_then, accepted, own_filled}
use Rattle.sgb_graph.proofs.graph.Graph.fill_own.Goals as goal

pub fill-requires : goal.fill-requires
fill-requires c =
    let x = six_named c.args.self.now c.args.fields _ _ _ _ _ _ (six_of c.args.fields _ _ _ _ _ _ c.six-uu.ensures.len c.six-uu.ensures.first c.six-uu.ensures.second c.six-uu.ensures.third c.six-uu.ensures.fourth c.six-uu.ensures.fifth c.six-uu.ensures.sixth) c.requires in
    accepted c.args.self.now _ (places.Graph own.Uu) _ (names_refl c.args.self.now) refl x.first

pub fill-requires-2 : goal.fill-requires-2
fill-requires-2 c =
    let x = six_named c.args.self.now c.args.fields _ _ _ _ _ _ (six_of c.args.fields _ _ _ _ _ _ c.six-uu.ensures.len c.six-uu.ensures.first c.six-uu.ensures.second c.six-uu.ensures.third c.six-uu.ensures.fourth c.six-uu.ensures.fifth c.six-uu.ensures.sixth) c.requires in
    accepted c.args.self.now _ (places.Graph own.Vv) _ (c.fill.ensures.names) refl x.second

pub fill-requires-3 : goal.fill-requires-3
fill-requires-3 c =
    let x = six_named c.args.self.now c.args.fields _ _ _ _ _ _ (six_of c.args.fields _ _ _ _ _ _ c.six-uu.ensures.len c.six-uu.ensures.first c.six-uu.ensures.second c.six-uu.ensures.third c.six-uu.ensures.fourth c.six-uu.ensures.fifth c.six-uu.ensures.sixth) c.requires in
    accepted c.args.self.now _ (places.Graph own.Ww) _ (names_then _ _ _ (c.fill.ensures.names) c.fill-2.ensures.names) refl x.third

pub fill-requires-4 : goal.fill-requires-4
fill-requires-4 c =
    let x = six_named c.args.self.now c.args.fields _ _ _ _ _ _ (six_of c.args.fields _ _ _ _ _ _ c.six-uu.ensures.len c.six-uu.ensures.first c.six-uu.ensures.second c.six-uu.ensures.third c.six-uu.ensures.fourth c.six-uu.ensures.fifth c.six-uu.ensures.sixth) c.requires in
    accepted c.args.self.now _ (places.Graph own.Xx) _ (names_then _ _ _ (names_then _ _ _ (c.fill.ensures.names) c.fill-2.ensures.names) c.fill-3.ensures.names) refl x.fourth

pub fill-requires-5 : goal.fill-requires-5
fill-requires-5 c =
    let x = six_named c.args.self.now c.args.fields _ _ _ _ _ _ (six_of c.args.fields _ _ _ _ _ _ c.six-uu.ensures.len c.six-uu.ensures.first c.six-uu.ensures.second c.six-uu.ensures.third c.six-uu.ensures.fourth c.six-uu.ensures.fifth c.six-uu.ensures.sixth) c.requires in
    accepted c.args.self.now _ (places.Graph own.Yy) _ (names_then _ _ _ (names_then _ _ _ (names_then _ _ _ (c.fill.ensures.names) c.fill-2.ensures.names) c.fill-3.ensures.names) c.fill-4.ensures.names) refl x.fifth

pub fill-requires-6 : goal.fill-requires-6
fill-requires-6 c =
    let x = six_named c.args.self.now c.args.fields _ _ _ _ _ _ (six_of c.args.fields _ _ _ _ _ _ c.six-uu.ensures.len c.six-uu.ensures.first c.six-uu.ensures.second c.six-uu.ensures.third c.six-uu.ensures.fourth c.six-uu.ensures.fifth c.six-uu.ensures.sixth) c.requires in
    accepted c.args.self.now _ (places.Graph own.Zz) _ (names_then _ _ _ (names_then _ _ _ (names_then _ _ _ (names_then _ _ _ (c.fill.ensures.names) c.fill-2.ensures.names) c.fill-3.ensures.names) c.fill-4.ensures.names) c.fill-5.ensures.names) refl x.sixth

pub returns-clause-value : goal.returns-clause-value
returns-clause-value c =
    own_filled c.args.self.now _ _ _ _ _ _ c.args.fields _ _ _ _ _ _ c.fill.ensures.before.six (six_of c.args.fields _ _ _ _ _ _ c.six-uu.ensures.len c.six-uu.ensures.first c.six-uu.ensures.second c.six-uu.ensures.third c.six-uu.ensures.fourth c.six-uu.ensures.fifth c.six-uu.ensures.sixth)
    c.fill.ensures.value c.fill-2.ensures.value c.fill-3.ensures.value c.fill-4.ensures.value c.fill-5.ensures.value c.fill-6.ensures.value
