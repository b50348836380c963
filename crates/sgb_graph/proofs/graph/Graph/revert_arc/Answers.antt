use Rattle.std.proofs.Common.{refl}
use Rattle.sgb_graph.specs.declared.graph.Graph.TheInside.{Inside}
use Rattle.sgb_graph.specs.Graph.{GraphOf}
use Rattle.sgb_graph.specs.Delta.{LeftByArc}
use Rattle.sgb_graph.proofs.Shows.{Opened, opened, closed, closed_arena}
use Rattle.sgb_graph.proofs.CutLemmas.{revert_arc_can, revert_arc_after}
use Rattle.sgb_graph.proofs.graph.Graph.revert_arc.Goals as goal

pub take_out-requires : goal.take_out-requires
take_out-requires c =
    let h = c.args.self.now in
    let o = opened c.self.inside h c.self.view_is c.self.invariant in
    record { graph = h; sound = o.graph; shows = o.shows; can = revert_arc_can c.requires.0 h c.args.number c.requires.1 }

pub invariant_of-self : goal.invariant_of-self
invariant_of-self c =
    let h = c.args.self.now in
    let a = c.self.inside in
    let b : Inside = record { id = a.id; types = a.types; fields = a.fields; vertices = c.take_out.new.vertices; slots = c.truncate.new.self; holes = a.holes } in
    closed_arena b c.requires.0
    (revert_arc_after a b h c.args.number c.take_out.result _ c.requires.0 (opened a h c.self.view_is c.self.invariant) c.requires.1 c.take_out.ensures c.truncate.ensures refl (record { id = refl; types = refl; fields = refl }))

pub returns : goal.returns
returns c =
    let h = c.args.self.now in
    let a = c.self.inside in
    let b : Inside = record { id = a.id; types = a.types; fields = a.fields; vertices = c.take_out.new.vertices; slots = c.truncate.new.self; holes = a.holes } in
    let after : (g : GraphOf) → LeftByArc g c.args.number h → Opened b g = λ g l.
    revert_arc_after a b h c.args.number c.take_out.result _ g (opened a h c.self.view_is c.self.invariant) l c.take_out.ensures c.truncate.ensures refl (record { id = refl; types = refl; fields = refl }) in
    record { back = λ g l. closed b g (after g l); sound = (closed_arena b c.requires.0 (after c.requires.0 c.requires.1)).graph }
