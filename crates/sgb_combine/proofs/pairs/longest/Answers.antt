use Rattle.std.proofs.Common.{length, arith, ap}
use Rattle.sgb_combine.proofs.PairNames.{longest_more}
use Rattle.sgb_combine.proofs.pairs.longest.Goals as goal

pub loop-v-preserved : goal.loop-v-preserved
loop-v-preserved c =
    let short = c.label.ensures.text.short in
    let limit = c.loop-v.invariant.limit in
    record {
      limit = omega (arith, short, limit, ap length c.label.ensures.value);
      longest = longest_more c.args.graph.now c.loop-v.v c.loop-v.most c.max-most.result (length c.label.result.now) c.loop-v.invariant.longest (ap length c.label.ensures.value) c.max-most.ensures;
    }
