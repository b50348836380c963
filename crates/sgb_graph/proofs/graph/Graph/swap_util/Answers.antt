use Rattle.std.proofs.Common.{refl}
use Rattle.sgb_graph.specs.declared.graph.Graph.TheInside.{Inside}
use Rattle.sgb_graph.specs.Edit.{with_util}
use Rattle.sgb_graph.proofs.Shows.{opened, closed, closed_arena}
use Rattle.sgb_graph.proofs.ShowsPut.{first_room}
use Rattle.sgb_graph.proofs.ExchangeLemmas.{exchange_done, exchange_room}
use Rattle.sgb_graph.proofs.graph.Graph.swap_util.Goals as goal

pub gain_name-requires : goal.gain_name-requires
gain_name-requires c =
    let o = opened c.self.inside c.args.self.now c.self.view_is c.self.invariant in
    first_room _ _ c.args.self.now c.args.value o.shows o.graph c.requires.value

pub lose_name-requires : goal.lose_name-requires
lose_name-requires c =
    let o = opened c.self.inside c.args.self.now c.self.view_is c.self.invariant in
    exchange_room c.self.inside.fields c.self.inside.vertices c.self.inside.slots c.args.self.now c.args.place c.args.value _ _ _ o.fields o.shows o.graph c.requires
    c.gain_name.ensures c.replace_value-old.ensures.old c.replace_value-old.ensures.slots

pub invariant_of-self : goal.invariant_of-self
invariant_of-self c =
    let a = c.self.inside in
    let g = c.args.self.now in
    let b : Inside = record { id = a.id; types = a.types; fields = c.replace_value-old.new.fields; vertices = c.replace_value-old.new.vertices; slots = c.lose_name.new.self; holes = a.holes } in
    closed_arena b (with_util g c.args.place c.args.value)
    (exchange_done a b g c.args.place c.args.value _ _ _ (opened a g c.self.view_is c.self.invariant) c.requires
    c.gain_name.ensures c.replace_value-old.ensures.old c.replace_value-old.ensures.fields c.replace_value-old.ensures.vertices c.replace_value-old.ensures.slots c.lose_name.ensures refl refl refl).1

pub returns : goal.returns
returns c =
    let a = c.self.inside in
    let g = c.args.self.now in
    let b : Inside = record { id = a.id; types = a.types; fields = c.replace_value-old.new.fields; vertices = c.replace_value-old.new.vertices; slots = c.lose_name.new.self; holes = a.holes } in
    let done = exchange_done a b g c.args.place c.args.value _ _ _ (opened a g c.self.view_is c.self.invariant) c.requires
    c.gain_name.ensures c.replace_value-old.ensures.old c.replace_value-old.ensures.fields c.replace_value-old.ensures.vertices c.replace_value-old.ensures.slots c.lose_name.ensures refl refl refl in
    record { value = done.0; graph = closed b _ done.1; sound = (closed_arena b _ done.1).graph }
