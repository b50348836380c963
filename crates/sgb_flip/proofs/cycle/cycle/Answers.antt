use Rattle.sgb_flip.proofs.Batches.{next_batch}
use Rattle.sgb_flip.proofs.cycle.cycle.Goals as goal

pub returns-clause-batch : goal.returns-clause-batch
returns-clause-batch c =
    next_batch c.args.words.now c.renew_vectors.new.words c.renew_vectors-2.new.words c.renew.new.words c.requires.count c.renew_vectors.ensures.run c.renew_vectors-2.ensures.run c.renew.ensures.run
