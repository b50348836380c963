use Rattle.std.proofs.Common.{◌∙◌, sym, arith}
use Rattle.sgb_graph.specs.Graph.{made_of}
use Rattle.sgb_graph.specs.Paired.{is_matched}
use Rattle.sgb_graph.proofs.PairedLemmas.{below_all_more, below_all_not}
use Rattle.sgb_graph.proofs.graph.Graph.are_arcs_matched.Goals as goal

pub returns-then-not-is_matched : goal.returns-then-not-is_matched
returns-then-not-is_matched c =
    let g = c.args.self.now in
    sym (below_all_not (is_matched g) (made_of g) c.loop-number.number (omega arith) (sym c.is_matched.ensures ∙ c.if-not-is_matched.true))

pub loop-number-preserved : goal.loop-number-preserved
loop-number-preserved c = below_all_more (is_matched c.args.self.now) c.loop-number.number c.loop-number.invariant (sym c.is_matched.ensures ∙ c.if-not-is_matched.false)
