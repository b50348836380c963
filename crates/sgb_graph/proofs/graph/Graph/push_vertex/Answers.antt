use Rattle.std.proofs.Common.{◌≡◌, ◌∙◌, ap, sym, refl, arith, map}
use Rattle.sgb_graph.specs.declared.graph.Graph.TheInside.{Inside}
use Rattle.sgb_graph.specs.Edit.{stored}
use Rattle.sgb_graph.specs.Set.{IsStorable}
use Rattle.sgb_graph.specs.Vertex.{with_vertex_last, new_vertex}
use Rattle.std.proofs.Common.{All, length, subst}
use Rattle.sgb_graph.proofs.Shows.{Opened, opened, closed, closed_arena}
use Rattle.sgb_graph.proofs.GrowLemmas.{grow_opened, vertex_is}
use Rattle.sgb_graph.proofs.graph.Graph.push_vertex.Goals as goal

pub invariant_of-self-2 : goal.invariant_of-self-2
invariant_of-self-2 c =
    let a = c.self.inside in
    let g = c.args.self.now in
    let b : Inside = record { id = a.id; types = a.types; fields = a.fields; vertices = c.push.new.self; slots = a.slots; holes = a.holes } in
    let storable : All IsStorable (map stored c.args.fields) = subst (All IsStorable) c.stored_six.ensures.value c.stored_six.ensures.storable in
    let six : length (map stored c.args.fields) ≡ 6 = ap length (sym c.stored_six.ensures.value) ∙ c.stored_six.ensures.six in
    let after : Opened b (with_vertex_last g (new_vertex c.args.label c.args.fields)) =
    grow_opened a b g c.args.label c.args.fields _ (opened a g c.self.view_is c.self.invariant) (omega arith) c.bytes.ensures.text six c.requires storable
    (vertex_is c.args.label c.args.label c.stored_six.result (map stored c.args.fields) refl c.stored_six.ensures.value) refl refl refl refl refl c.in_ok-push.ensures.ok in
    closed_arena b _ after

pub returns-clause-ok : goal.returns-clause-ok
returns-clause-ok c =
    let a = c.self.inside in
    let g = c.args.self.now in
    let b : Inside = record { id = a.id; types = a.types; fields = a.fields; vertices = c.push.new.self; slots = a.slots; holes = a.holes } in
    let storable : All IsStorable (map stored c.args.fields) = subst (All IsStorable) c.stored_six.ensures.value c.stored_six.ensures.storable in
    let six : length (map stored c.args.fields) ≡ 6 = ap length (sym c.stored_six.ensures.value) ∙ c.stored_six.ensures.six in
    let after : Opened b (with_vertex_last g (new_vertex c.args.label c.args.fields)) =
    grow_opened a b g c.args.label c.args.fields _ (opened a g c.self.view_is c.self.invariant) (omega arith) c.bytes.ensures.text six c.requires storable
    (vertex_is c.args.label c.args.label c.stored_six.result (map stored c.args.fields) refl c.stored_six.ensures.value) refl refl refl refl refl c.in_ok-push.ensures.ok in
    closed b _ after
