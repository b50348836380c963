use Rattle.std.proofs.Common.{◌<◌, refl, rules}
use Rattle.sgb_graph.specs.declared.graph.Graph.TheInside.{Inside}
use Rattle.sgb_graph.specs.Graph.{n_of}
use Rattle.sgb_graph.proofs.SetLemmas.{label_done}
use Rattle.sgb_graph.proofs.graph.Graph.swap_label.Goals as goal

pub invariant_of-self : goal.invariant_of-self
invariant_of-self c =
    let a = c.self.inside in
    let g = c.args.self.now in
    let low : c.args.vertex.0 < n_of g = c.requires in
    let b : Inside = record { id = a.id; types = a.types; fields = a.fields; vertices = c.replace_label.new.self; slots = a.slots; holes = a.holes } in
    (label_done a b g c.args.vertex c.args.label c.replace_label.result c.self.view_is c.self.invariant low c.bytes.ensures.text
    c.replace_label.ensures.old refl refl refl refl refl c.replace_label.ensures.vertices).arena

pub returns : goal.returns
returns c =
    let a = c.self.inside in
    let g = c.args.self.now in
    let low : c.args.vertex.0 < n_of g = c.requires in
    let b : Inside = record { id = a.id; types = a.types; fields = a.fields; vertices = c.replace_label.new.self; slots = a.slots; holes = a.holes } in
    let done = label_done a b g c.args.vertex c.args.label c.replace_label.result c.self.view_is c.self.invariant low c.bytes.ensures.text
    c.replace_label.ensures.old refl refl refl refl refl c.replace_label.ensures.vertices in
    record { value = search rules; graph = done.graph; left = done.left; sound = done.sound }
