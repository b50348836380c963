use Rattle.std.proofs.Common.{sum, sym, ap, arith}
use Rattle.std.proofs.lemmas.Bool.{lt-leb, le-leb}
use Rattle.std.proofs.lemmas.List.{take_all}
use Rattle.std.proofs.lemmas.List.Sums.{sum_by_more, sum_by_more_le}
use Rattle.sgb_perms.proofs.counts.are_few.Goals as goal

pub loop-count-preserved : goal.loop-count-preserved
loop-count-preserved c =
    let low = c.loop-count-test.true in
    (omega (arith, sum_by_more (λ x. x) c.args.counts.now c.loop-count.count-index 0 low, c.loop-count.invariant.0), omega (arith, c.loop-count.invariant.1))

pub returns-then-count-elements : goal.returns-then-count-elements
returns-then-count-elements c =
    let low = c.loop-count-test.true in
    sym (lt-leb (sum c.args.counts.now) 255
    (omega (arith, sum_by_more_le (λ x. x) c.args.counts.now c.loop-count.count-index 0 low, c.loop-count.invariant.0)))

pub returns : goal.returns
returns c =
    let all = ap sum (take_all c.loop-count.count-index c.args.counts.now (omega arith)) in
    sym (le-leb (sum c.args.counts.now) 255 (omega (arith, all, c.loop-count.invariant.0, c.loop-count.invariant.1)))
