use Rattle.std.proofs.Common.{refl}
use Rattle.std.specs.Int.{w64}
use Rattle.std.proofs.lemmas.Int.{to_z-of_z}
use Rattle.sgb_graph.specs.declared.graph.Graph.TheInside.{Inside}
use Rattle.sgb_graph.proofs.ArcChanges.{aim_done}
use Rattle.sgb_graph.proofs.graph.Graph.aim.Goals as goal

pub invariant_of-self : goal.invariant_of-self
invariant_of-self c =
    let a = c.self.inside in
    let g = c.args.self.now in
    let b : Inside = record { id = a.id; types = a.types; fields = a.fields; vertices = a.vertices; slots = c.aim.new.self; holes = a.holes } in
    (aim_done a b g c.args.number.0 c.args.tip _ c.args.len _ c.self.view_is c.self.invariant c.requires.live c.requires.tip c.ranges.len c.new.ensures (to_z-of_z w64 c.args.len c.ranges.len) refl refl refl refl refl c.aim.ensures).arena

pub returns : goal.returns
returns c =
    let a = c.self.inside in
    let g = c.args.self.now in
    let b : Inside = record { id = a.id; types = a.types; fields = a.fields; vertices = a.vertices; slots = c.aim.new.self; holes = a.holes } in
    let done = aim_done a b g c.args.number.0 c.args.tip _ c.args.len _ c.self.view_is c.self.invariant c.requires.live c.requires.tip c.ranges.len c.new.ensures (to_z-of_z w64 c.args.len c.ranges.len) refl refl refl refl refl c.aim.ensures in
    record { value = done.graph; names = done.names; sound = done.sound }
