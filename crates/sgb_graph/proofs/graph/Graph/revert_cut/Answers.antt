use Rattle.std.proofs.Common.{refl, arith, ◌-◌}
use Rattle.sgb_graph.specs.declared.graph.Graph.TheInside.{Inside}
use Rattle.sgb_graph.specs.Graph.{GraphOf}
use Rattle.sgb_graph.specs.Delta.{LeftByCut}
use Rattle.sgb_graph.proofs.Shows.{Opened, opened, closed, closed_arena}
use Rattle.sgb_graph.proofs.NewArcs.{some_hole}
use Rattle.sgb_graph.proofs.CutLemmas.{revert_cut_can, revert_cut_after}
use Rattle.sgb_graph.proofs.graph.Graph.revert_cut.Goals as goal

pub put_back-requires : goal.put_back-requires
put_back-requires c =
    let h = c.args.self.now in
    let o = opened c.self.inside h c.self.view_is c.self.invariant in
    record { graph = h; sound = o.graph; shows = o.shows; can = revert_cut_can c.requires.0 h c.args.arc c.requires.1 }

pub overflow_sub-self : goal.overflow_sub-self
overflow_sub-self c =
    let h = c.args.self.now in
    omega (arith, some_hole c.self.inside h c.args.arc (opened c.self.inside h c.self.view_is c.self.invariant) (revert_cut_can c.requires.0 h c.args.arc c.requires.1))

pub invariant_of-self : goal.invariant_of-self
invariant_of-self c =
    let h = c.args.self.now in
    let a = c.self.inside in
    let b : Inside = record { id = a.id; types = a.types; fields = a.fields; vertices = c.put_back.new.vertices; slots = c.put_back.new.slots; holes = a.holes - 1 } in
    closed_arena b c.requires.0
    (revert_cut_after a b h c.args.arc c.requires.0 (opened a h c.self.view_is c.self.invariant) c.requires.1 c.put_back.ensures refl (record { id = refl; types = refl; fields = refl }))

pub returns : goal.returns
returns c =
    let h = c.args.self.now in
    let a = c.self.inside in
    let b : Inside = record { id = a.id; types = a.types; fields = a.fields; vertices = c.put_back.new.vertices; slots = c.put_back.new.slots; holes = a.holes - 1 } in
    let after : (g : GraphOf) → LeftByCut g c.args.arc h → Opened b g = λ g l.
    revert_cut_after a b h c.args.arc g (opened a h c.self.view_is c.self.invariant) l c.put_back.ensures refl (record { id = refl; types = refl; fields = refl }) in
    record { back = λ g l. closed b g (after g l); sound = (closed_arena b c.requires.0 (after c.requires.0 c.requires.1)).graph }
