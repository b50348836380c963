use Rattle.std.proofs.Common.{◌≡◌, refl, true, rules}
use Rattle.std.specs.Int.{w64}
use Rattle.std.proofs.lemmas.Int.{to_z-of_z}
use Rattle.sgb_graph.specs.declared.graph.Graph.TheInside.{Inside}
use Rattle.sgb_graph.specs.Graph.{has_arc}
use Rattle.sgb_graph.proofs.SetLemmas.{len_done}
use Rattle.sgb_graph.proofs.graph.Graph.swap_len.Goals as goal

pub invariant_of-self : goal.invariant_of-self
invariant_of-self c =
    let a = c.self.inside in
    let g = c.args.self.now in
    let there : has_arc g c.args.number.0 ≡ true = c.requires in
    let b : Inside = record { id = a.id; types = a.types; fields = a.fields; vertices = a.vertices; slots = c.replace_len.new.self; holes = a.holes } in
    (len_done a b g c.args.number c.args.len _ c.replace_len.result a.slots _ c.self.view_is c.self.invariant there c.ranges.len (to_z-of_z w64 c.args.len c.ranges.len)
    refl c.replace_len.ensures.old c.replace_len.ensures.slots refl refl refl refl refl
    refl).arena

pub returns : goal.returns
returns c =
    let a = c.self.inside in
    let g = c.args.self.now in
    let there : has_arc g c.args.number.0 ≡ true = c.requires in
    let b : Inside = record { id = a.id; types = a.types; fields = a.fields; vertices = a.vertices; slots = c.replace_len.new.self; holes = a.holes } in
    let done = len_done a b g c.args.number c.args.len _ c.replace_len.result a.slots _ c.self.view_is c.self.invariant there c.ranges.len (to_z-of_z w64 c.args.len c.ranges.len)
    refl c.replace_len.ensures.old c.replace_len.ensures.slots refl refl refl refl refl
    refl in
    record { value = search rules; graph = done.graph; left = done.left; sound = done.sound }
