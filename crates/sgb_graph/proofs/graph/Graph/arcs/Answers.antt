use Rattle.std.proofs.Common.{refl, ◌≡◌, ◌≤◌, length, All, sym, subst}
use Rattle.sgb_graph.specs.Graph.{IsGraph, made_of}
use Rattle.sgb_graph.specs.Edit.{owner_of}
use Rattle.sgb_graph.proofs.Graphs.{few_arcs_of}
use Rattle.sgb_graph.proofs.Readers.{arcs_are, arcs_owned}
use Rattle.sgb_graph.proofs.Shows.{linked_at, within_made}
use Rattle.sgb_graph.proofs.graph.Graph.arcs.Goals as goal

pub new-requires : goal.new-requires
new-requires c =
    linked_at c.self.inside c.args.self.now c.args.vertex.0 c.first.result c.self.inside.slots c.self.view_is c.self.invariant c.requires c.first.ensures refl

pub returns-clause-within : goal.returns-clause-within
returns-clause-within c =
    within_made c.self.inside c.args.self.now c.args.vertex.0 c.first.result c.self.inside.slots c.new.result c.self.view_is c.self.invariant c.requires c.first.ensures refl c.new.ensures

pub returns-clause-owned : goal.returns-clause-owned
returns-clause-owned c =
    let g = c.args.self.now in
    let same = arcs_are c.self.inside g c.args.vertex.0 c.first.result c.self.inside.slots c.new.result c.self.view_is c.self.invariant c.requires c.first.ensures refl c.new.ensures in
    subst (λ ks. All (λ k. owner_of g k ≡ c.args.vertex.0) ks) (sym same) (arcs_owned g c.args.vertex.0 (subst IsGraph c.self.view_is c.self.invariant.graph))

pub returns-clause-few : goal.returns-clause-few
returns-clause-few c =
    let g = c.args.self.now in
    let same = arcs_are c.self.inside g c.args.vertex.0 c.first.result c.self.inside.slots c.new.result c.self.view_is c.self.invariant c.requires c.first.ensures refl c.new.ensures in
    subst (λ ks. length ks ≤ made_of g) (sym same) (few_arcs_of g c.args.vertex.0 (subst IsGraph c.self.view_is c.self.invariant.graph))
