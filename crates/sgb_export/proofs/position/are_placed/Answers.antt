use Rattle.std.proofs.Common.{◌∙◌, sym, arith}
use Rattle.sgb_graph.specs.Graph.{n_of}
use Rattle.sgb_graph.proofs.PairedLemmas.{below_all_more, below_all_not}
use Rattle.sgb_export.specs.Dot.{is_placed}
use Rattle.sgb_export.proofs.position.are_placed.Goals as goal

pub returns-then-not-is_placed : goal.returns-then-not-is_placed
returns-then-not-is_placed c =
    let g = c.args.graph.now in
    sym (below_all_not (is_placed g) (n_of g) c.loop-v.v (omega arith) (sym c.is_placed.ensures ∙ c.if-not-is_placed.true))

pub loop-v-preserved : goal.loop-v-preserved
loop-v-preserved c = below_all_more (is_placed c.args.graph.now) c.loop-v.v c.loop-v.invariant (sym c.is_placed.ensures ∙ c.if-not-is_placed.false)
