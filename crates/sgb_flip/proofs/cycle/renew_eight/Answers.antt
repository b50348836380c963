use Rattle.sgb_flip.specs.Sequence.{difference}
use Rattle.sgb_flip.proofs.Lanes.{AreSmall-run, masked_difference, run_lanes}
use Rattle.sgb_flip.proofs.Terms.{difference-below}
use Rattle.sgb_flip.proofs.cycle.renew_eight.Goals as goal

pub returns-clause-run : goal.returns-clause-run
returns-clause-run c =
    run_lanes difference _ _ 2147483647 c.args.at c.args.from c.args.words.now masked_difference c.requires.small c.requires.to_end c.requires.from_end

pub returns-clause-small : goal.returns-clause-small
returns-clause-small c =
    AreSmall-run difference c.args.at c.args.from 8 c.args.words.now _ difference-below (returns-clause-run c) c.requires.small
