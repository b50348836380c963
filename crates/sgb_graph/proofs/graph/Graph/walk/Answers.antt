use Rattle.std.proofs.Common.{refl, ◌≡◌, ◌<◌, IsSome, arith, subst}
use Rattle.sgb_graph.specs.Graph.{IsGraph, made_of, arc_at}
use Rattle.sgb_graph.specs.Edit.{owner_of}
use Rattle.sgb_graph.proofs.Graphs.{arcs_live, few_arcs_of}
use Rattle.sgb_graph.proofs.Shows.{linked_at}
use Rattle.sgb_graph.proofs.Readers.{arcs_owned}
use Rattle.sgb_graph.proofs.LoopWalks.{walk_is, All-walked, length-walked}
use Rattle.sgb_graph.proofs.graph.Graph.walk.Goals as goal

pub new-requires : goal.new-requires
new-requires c =
    linked_at c.self.inside c.args.self.now c.args.vertex.0 c.first.result c.self.inside.slots c.self.view_is c.self.invariant c.requires c.first.ensures refl

pub returns-clause-value : goal.returns-clause-value
returns-clause-value c =
    walk_is c.self.inside c.args.self.now c.args.vertex.0 c.args.directed c.first.result c.self.inside.slots c.new.result c.self.view_is c.self.invariant c.requires c.first.ensures refl c.new.ensures

pub returns-clause-live : goal.returns-clause-live
returns-clause-live c =
    let g = c.args.self.now in
    let same = walk_is c.self.inside g c.args.vertex.0 c.args.directed c.first.result c.self.inside.slots c.new.result c.self.view_is c.self.invariant c.requires c.first.ensures refl c.new.ensures in
    let all = arcs_live g c.args.vertex.0 (subst IsGraph c.self.view_is c.self.invariant.graph) in
    All-walked (λ k. IsSome (arc_at g k)) c.args.directed g c.args.vertex.0 c.new.result same (λ i d h. (all i d h).live)

pub returns-clause-within : goal.returns-clause-within
returns-clause-within c =
    let g = c.args.self.now in
    let same = walk_is c.self.inside g c.args.vertex.0 c.args.directed c.first.result c.self.inside.slots c.new.result c.self.view_is c.self.invariant c.requires c.first.ensures refl c.new.ensures in
    let all = arcs_live g c.args.vertex.0 (subst IsGraph c.self.view_is c.self.invariant.graph) in
    All-walked (λ k. k < made_of g) c.args.directed g c.args.vertex.0 c.new.result same (λ i d h. (all i d h).made)

pub returns-clause-owned : goal.returns-clause-owned
returns-clause-owned c =
    let g = c.args.self.now in
    let same = walk_is c.self.inside g c.args.vertex.0 c.args.directed c.first.result c.self.inside.slots c.new.result c.self.view_is c.self.invariant c.requires c.first.ensures refl c.new.ensures in
    All-walked (λ k. owner_of g k ≡ c.args.vertex.0) c.args.directed g c.args.vertex.0 c.new.result same (arcs_owned g c.args.vertex.0 (subst IsGraph c.self.view_is c.self.invariant.graph))

pub returns-clause-few : goal.returns-clause-few
returns-clause-few c =
    let g = c.args.self.now in
    let same = walk_is c.self.inside g c.args.vertex.0 c.args.directed c.first.result c.self.inside.slots c.new.result c.self.view_is c.self.invariant c.requires c.first.ensures refl c.new.ensures in
    omega (arith, length-walked c.args.directed g c.args.vertex.0 c.new.result same, few_arcs_of g c.args.vertex.0 (subst IsGraph c.self.view_is c.self.invariant.graph))
