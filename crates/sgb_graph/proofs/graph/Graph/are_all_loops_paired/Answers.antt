use Rattle.std.proofs.Common.{◌∙◌, sym, arith, ℕ, Bool}
use Rattle.sgb_graph.specs.Graph.{GraphOf, n_of, arcs_of}
use Rattle.sgb_graph.specs.Paired.{are_loops_paired}
use Rattle.sgb_graph.proofs.PairedLemmas.{below_all_more, below_all_not}
use Rattle.sgb_graph.proofs.graph.Graph.are_all_loops_paired.Goals as goal

abbrev at : GraphOf → ℕ → Bool
at g v = are_loops_paired g v (arcs_of g v)

pub returns-then-not-are_loops_paired : goal.returns-then-not-are_loops_paired
returns-then-not-are_loops_paired c =
    let g = c.args.self.now in
    sym (below_all_not (at g) (n_of g) c.loop-vertex.vertex (omega arith) (sym c.are_loops_paired.ensures ∙ c.if-not-are_loops_paired.true))

pub loop-vertex-preserved : goal.loop-vertex-preserved
loop-vertex-preserved c = below_all_more (at c.args.self.now) c.loop-vertex.vertex c.loop-vertex.invariant (sym c.are_loops_paired.ensures ∙ c.if-not-are_loops_paired.false)
