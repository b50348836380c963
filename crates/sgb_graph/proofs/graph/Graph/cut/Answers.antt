use Rattle.std.proofs.Common.{◌∙◌, sym, refl, ◌+◌, ap}
use Rattle.sgb_graph.specs.declared.delta.GraphDelta.TheVariants.{Cut}
use Rattle.sgb_graph.specs.declared.graph.Graph.TheInside.{Inside}
use Rattle.sgb_graph.proofs.Shows.{opened}
use Rattle.sgb_graph.proofs.NewArcs.{SameOwn}
use Rattle.sgb_graph.proofs.CutLemmas.{CutCan, can_cut_is, cut_accepted, cut_left}
use Rattle.sgb_graph.proofs.graph.Graph.cut.Goals as goal

pub invariant_of-self : goal.invariant_of-self
invariant_of-self c =
    let g = c.args.self.now in
    let a = c.self.inside in
    let k = c.args.number.0 in
    let tested = sym c.can_cut.ensures.value ∙ c.if-not-can_cut.false in
    let x : CutCan a g k c.self.inside.vertices c.self.inside.slots = record { opened = opened a g c.self.view_is c.self.invariant; can = can_cut_is g k tested; vertices = refl; slots = refl } in
    let b : Inside = record { id = a.id; types = a.types; fields = a.fields; vertices = c.take_out-arc.new.vertices; slots = c.take_out-arc.new.slots; holes = a.holes + 1 } in
    let own : SameOwn a b = record { id = refl; types = refl; fields = refl } in
    (cut_left a b g k c.take_out-arc.result _ _ _ _ x (cut_accepted g k tested) c.take_out-arc.ensures
    refl refl refl own).arena

pub returns : goal.returns
returns c =
    let g = c.args.self.now in
    let a = c.self.inside in
    let k = c.args.number.0 in
    let tested = sym c.can_cut.ensures.value ∙ c.if-not-can_cut.false in
    let x : CutCan a g k c.self.inside.vertices c.self.inside.slots = record { opened = opened a g c.self.view_is c.self.invariant; can = can_cut_is g k tested; vertices = refl; slots = refl } in
    let b : Inside = record { id = a.id; types = a.types; fields = a.fields; vertices = c.take_out-arc.new.vertices; slots = c.take_out-arc.new.slots; holes = a.holes + 1 } in
    let own : SameOwn a b = record { id = refl; types = refl; fields = refl } in
    let done = cut_left a b g k c.take_out-arc.result _ _ _ _ x (cut_accepted g k tested) c.take_out-arc.ensures
    refl refl refl own in
    record { accepted = cut_accepted g k tested; delta = ap Cut done.delta; graph = done.graph; left = done.left; err = tt; unchanged = tt; sound = done.sound }
