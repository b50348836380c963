use Rattle.std.proofs.Common.{◌∙◌, sym, arith}
use Rattle.sgb_graph.specs.Graph.{n_of}
use Rattle.sgb_graph.proofs.PairedLemmas.{below_all_more, below_all_not}
use Rattle.sgb_export.specs.Links.{are_even_at}
use Rattle.sgb_export.proofs.direction.are_even.Goals as goal

pub returns-then-not-are_even_at : goal.returns-then-not-are_even_at
returns-then-not-are_even_at c =
    let g = c.args.graph.now in
    sym (below_all_not (are_even_at g) (n_of g) c.loop-v.v (omega arith) (sym c.are_even_at.ensures ∙ c.if-not-are_even_at.true))

pub loop-v-preserved : goal.loop-v-preserved
loop-v-preserved c = below_all_more (are_even_at c.args.graph.now) c.loop-v.v c.loop-v.invariant (sym c.are_even_at.ensures ∙ c.if-not-are_even_at.false)
