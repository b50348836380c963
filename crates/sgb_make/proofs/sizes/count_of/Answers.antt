use Rattle.std.proofs.Common.{refl, arith}
use Rattle.sgb_make.proofs.Volumes.{multiplied_start, multiplied_more, multiplied_over, multiplied_end}
use Rattle.sgb_make.proofs.sizes.count_of.Goals as goal

pub loop-size-init : goal.loop-size-init
loop-size-init c = multiplied_start c.args.sizes.now

pub returns-in_default-clause-err : goal.returns-in_default-clause-err
returns-in_default-clause-err c = (refl, multiplied_over (omega arith) c.loop-size.invariant c.requires c.in_default.ensures.none)

pub loop-size-preserved : goal.loop-size-preserved
loop-size-preserved c = multiplied_more c.in-Some.more (omega arith) c.loop-size.invariant c.in-Some.ensures.some.0 c.in-Some.ensures.some.1

pub returns-clause-ok : goal.returns-clause-ok
returns-clause-ok c = (multiplied_end (omega arith) c.loop-size.invariant, c.loop-size.invariant.few)
