use Rattle.std.proofs.Common.{◌∙◌, sym}
use Rattle.sgb_graph.proofs.PairedLemmas.{pair_missing, pair_met, loop_begins, other_passed, loops_end}
use Rattle.sgb_graph.proofs.graph.Graph.are_loops_paired.Goals as goal

pub returns-then-not-is_loop_pair : goal.returns-then-not-is_loop_pair
returns-then-not-is_loop_pair c =
    sym (pair_missing c.args.self.now c.args.vertex.0 c.loop-number.alone c.in-Some-alone.first _ _ _ _ c.loop-number.invariant.same c.loop-number.invariant.loops c.in-Some-alone.is c.in-Some.ensures.steps
    (sym c.is_loop_pair.ensures ∙ c.if-not-is_loop_pair.true))

pub loop-number-preserved-in-Some-alone : goal.loop-number-preserved-in-Some-alone
loop-number-preserved-in-Some-alone c =
    record {
      same = pair_met c.args.self.now c.args.vertex.0 c.loop-number.alone c.in-Some-alone.first _ _ _ _ c.loop-number.invariant.same c.in-Some-alone.is c.in-Some.ensures.steps
          (sym c.is_loop_pair.ensures ∙ c.if-not-is_loop_pair.false);
      loops = tt;
    }

pub loop-number-preserved-then-is_loop : goal.loop-number-preserved-then-is_loop
loop-number-preserved-then-is_loop c =
    record {
      same = loop_begins c.args.self.now c.args.vertex.0 c.loop-number.alone _ _ _ _ c.loop-number.invariant.same c.in_default.is c.in-Some.ensures.steps;
      loops = sym c.is_loop.ensures ∙ c.if-is_loop.true;
    }

pub loop-number-preserved : goal.loop-number-preserved
loop-number-preserved c =
    record {
      same = other_passed c.args.self.now c.args.vertex.0 c.loop-number.alone _ _ _ _ c.loop-number.invariant.same c.in_default.is c.in-Some.ensures.steps
          (sym c.is_loop.ensures ∙ c.if-is_loop.false);
      loops = c.loop-number.invariant.loops;
    }

pub returns : goal.returns
returns c = loops_end c.args.self.now c.args.vertex.0 c.loop-number.alone _ _ _ c.loop-number.invariant.same c.loop-number.invariant.loops c.in-None.ensures.steps.0 c.is_none.ensures
