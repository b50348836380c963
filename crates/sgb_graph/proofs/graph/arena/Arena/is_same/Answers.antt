use Rattle.std.proofs.Common.{◌∙◌, sym, arith, None}
use Rattle.sgb_graph.specs.Private.SameRows.{slot_eq}
use Rattle.sgb_graph.proofs.SameRows.{same_more, each_same, each_differs}
use Rattle.sgb_graph.proofs.graph.arena.Arena.is_same.Goals as goal

pub loop-index-init : goal.loop-index-init
loop-index-init c = λ j low. absurd (omega (arith, low))

pub loop-index-preserved : goal.loop-index-preserved
loop-index-preserved c = same_more slot_eq None c.args.self.now c.args.other.now c.loop-index.index c.loop-index.invariant (sym c.is_slot_same.ensures ∙ c.if-not-is_slot_same.false)

pub returns-then-not-is_slot_same : goal.returns-then-not-is_slot_same
returns-then-not-is_slot_same c =
    sym (each_differs slot_eq None c.args.self.now c.args.other.now c.loop-index.index (omega arith) (omega arith) (sym c.is_slot_same.ensures ∙ c.if-not-is_slot_same.true))

pub returns : goal.returns
returns c =
    sym (each_same slot_eq None c.args.self.now c.args.other.now (omega (arith, c.len.ensures, c.len-2.ensures, c.if-len.false))
    (λ j low. c.loop-index.invariant j (omega (arith, low, c.loop-index-test.false, c.len-index-end.ensures))))
