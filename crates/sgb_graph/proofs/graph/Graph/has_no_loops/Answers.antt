use Rattle.std.proofs.Common.{sym, ◌∙◌, arith}
use Rattle.sgb_graph.proofs.Loopless.{loopless_paired, one_more}
use Rattle.sgb_graph.proofs.graph.Graph.has_no_loops.Goals as goal

pub loop-number-init : goal.loop-number-init
loop-number-init c = λ k h. absurd (omega arith)

pub loop-number-preserved : goal.loop-number-preserved
loop-number-preserved c = one_more c.args.self.now c.loop-number.number c.loop-number.invariant (sym c.is_own_loop.ensures ∙ c.if-is_own_loop.false)

pub returns : goal.returns
returns c h =
    let all = c.made-number-end.ensures.value in
    loopless_paired c.args.self.now c.made-number-end.ensures.graph (λ k low. c.loop-number.invariant k (omega (arith, low, all, c.loop-number-test.false)))
