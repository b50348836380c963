use Rattle.std.proofs.Common.{refl}
use Rattle.sgb_graph.specs.declared.graph.Graph.TheInside.{Inside}
use Rattle.sgb_graph.proofs.Shows.{closed, closed_arena}
use Rattle.sgb_graph.proofs.NewLemmas.{bare_opened}
use Rattle.sgb_graph.proofs.graph.new.bare_graph.Goals as goal

pub invariant_of-result : goal.invariant_of-result
invariant_of-result c =
    let a : Inside = record { id = c.args.id; types = c.args.types; fields = c.six_zeros.result; vertices = c.args.vertices; slots = c.new.result; holes = 0 } in
    closed_arena _ _ (bare_opened a c.requires.few c.requires.id c.requires.types c.requires.bare c.six_zeros.ensures c.new.ensures refl)

pub returns-clause-value : goal.returns-clause-value
returns-clause-value c =
    let a : Inside = record { id = c.args.id; types = c.args.types; fields = c.six_zeros.result; vertices = c.args.vertices; slots = c.new.result; holes = 0 } in
    closed _ _ (bare_opened a c.requires.few c.requires.id c.requires.types c.requires.bare c.six_zeros.ensures c.new.ensures refl)

pub returns-clause-graph : goal.returns-clause-graph
returns-clause-graph c =
    let a : Inside = record { id = c.args.id; types = c.args.types; fields = c.six_zeros.result; vertices = c.args.vertices; slots = c.new.result; holes = 0 } in
    (closed_arena _ _ (bare_opened a c.requires.few c.requires.id c.requires.types c.requires.bare c.six_zeros.ensures c.new.ensures refl)).graph
