use Rattle.std.proofs.Common.{ap, refl, arith, to_z, of_z, rules}
use Rattle.std.specs.Int.{w64}
use Rattle.std.proofs.lemmas.Int.{to_z-of_z}
use Rattle.sgb_graph.specs.declared.graph.Graph.TheInside.{Inside}
use Rattle.sgb_graph.specs.Field.{arc_no}
use Rattle.sgb_graph.proofs.Holes.{edge_accepted}
use Rattle.sgb_graph.proofs.Shows.{opened}
use Rattle.sgb_graph.proofs.NewArcs.{edge_joined}
use Rattle.sgb_graph.proofs.graph.Graph.add_edge.Goals as goal

pub invariant_of-self-2 : goal.invariant_of-self-2
invariant_of-self-2 c =
    let a = c.self.inside in
    let g = c.args.self.now in
    let z = c.args.len in
    let b : Inside = record { id = a.id; types = a.types; fields = a.fields; vertices = c.push_edge.new.vertices; slots = c.push_edge.new.self; holes = a.holes } in
    (edge_joined a b g c.args.from c.args.to z (to_z w64 (of_z w64 z)) (arc_no c.made.result) (opened a g c.self.view_is c.self.invariant) c.requires.from c.requires.to c.ranges.len (to_z-of_z w64 z c.ranges.len)
    c.in_ok-push_edge.ensures.few c.in_ok-push_edge.ensures.joined refl (record { id = refl; types = refl; fields = refl }) (ap arc_no c.made.ensures.value)).arena

pub returns : goal.returns
returns c =
    let a = c.self.inside in
    let g = c.args.self.now in
    let z = c.args.len in
    let b : Inside = record { id = a.id; types = a.types; fields = a.fields; vertices = c.push_edge.new.vertices; slots = c.push_edge.new.self; holes = a.holes } in
    let done = edge_joined a b g c.args.from c.args.to z (to_z w64 (of_z w64 z)) (arc_no c.made.result) (opened a g c.self.view_is c.self.invariant) c.requires.from c.requires.to c.ranges.len (to_z-of_z w64 z c.ranges.len)
    c.in_ok-push_edge.ensures.few c.in_ok-push_edge.ensures.joined refl (record { id = refl; types = refl; fields = refl }) (ap arc_no c.made.ensures.value) in
    record {
      accepted = edge_accepted g c.args.from.0 c.args.to.0 c.requires.from c.requires.to (omega (arith, c.in_ok-push_edge.ensures.few, (opened c.self.inside g c.self.view_is c.self.invariant).shows.made));
      number = search rules;
      graph = done.graph;
      left = done.left;
      err = search rules;
      unchanged = search rules;
      sound = done.sound;
    }
