use Rattle.std.proofs.Common.{sym, arith}
use Rattle.sgb_flip.proofs.Batches.{batches_more}
use Rattle.sgb_flip.proofs.Terms.{terms_after-none}
use Rattle.sgb_flip.proofs.cycle.cycle_by.Goals as goal

pub loop-turn-init : goal.loop-turn-init
loop-turn-init c = record {
  count = c.requires.count;
  batch = sym (terms_after-none c.args.words.now c.requires.count);
  small = c.requires.small;
}

pub loop-turn-preserved : goal.loop-turn-preserved
loop-turn-preserved c = record {
  count = omega arith;
  batch = batches_more c.args.words.now c.loop-turn.words c.cycle.new.words c.loop-turn._turn c.loop-turn.invariant.batch c.cycle.ensures.batch;
  small = c.cycle.ensures.small;
}
