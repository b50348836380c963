use Rattle.std.proofs.Common.{◌+◌, arith, refl}
use Rattle.sgb_flip.specs.Sequence.{difference}
use Rattle.sgb_flip.proofs.Batches.{AreSmall-set, run_more}
use Rattle.sgb_flip.proofs.cycle.renew.Goals as goal

pub loop-k-preserved : goal.loop-k-preserved
unfolding difference
loop-k-preserved c =
    record {
      run = run_more difference c.args.at c.args.from c.args.count c.loop-k.k _ c.args.words.now c.loop-k.words c.requires.apart c.loop-k-test.true (omega arith) refl c.loop-k.invariant.run;
      small = AreSmall-set c.loop-k.words (c.args.at + c.loop-k.k) _ c.loop-k.invariant.small (omega arith);
    }
