use Rattle.std.proofs.Common.{◌≡◌, ◌<◌, ◌≤◌, ◌+◌, ◌*◌, ℕ, List, length, get_or, drop, refl, arith}
use Rattle.std.proofs.Math.Nat.{mul-le-mul_left}
use Rattle.std.proofs.lemmas.List.{at_drop_more, at_drop_all}
use Rattle.std.proofs.lemmas.List.Sums.{sum_by_more, sum_by_more_le, sum_by-take-le}
use Rattle.sgb_perms.specs.Arrangement.{greatest_from}
use Rattle.sgb_perms.proofs.counts.greatest.Goals as goal

greatest_more : (s : ℕ) (xs : List ℕ) (i : ℕ) → i < length xs → greatest_from s (drop i xs) ≡ s * get_or xs i 0 + greatest_from (s + get_or xs i 0) (drop (i + 1) xs)
unfolding greatest_from
greatest_more s xs i less = at_drop_more (greatest_from s) xs i 0 less

greatest_all : (s : ℕ) (xs : List ℕ) (i : ℕ) → length xs ≤ i → greatest_from s (drop i xs) ≡ 0
unfolding greatest_from
greatest_all s xs i past = at_drop_all (greatest_from s) xs i past

product_small : (s x : ℕ) → s ≤ 255 → s * x ≤ 255 * x
product_small s x le = omega (arith, mul-le-mul_left x le)

pub overflow_mul-inversions : goal.overflow_mul-inversions
overflow_mul-inversions c =
    let low = c.loop-count-test.true in
    let x = get_or c.args.counts.now c.loop-count.count-index 0 in
    let within = sum_by_more_le (λ x. x) c.args.counts.now c.loop-count.count-index 0 low in
    omega (arith, c.loop-count.invariant.counted, c.requires, within, product_small c.loop-count.smaller x (omega (arith, c.loop-count.invariant.counted, c.requires, within)))

pub overflow_add-inversions : goal.overflow_add-inversions
overflow_add-inversions c =
    let low = c.loop-count-test.true in
    let x = get_or c.args.counts.now c.loop-count.count-index 0 in
    let within = sum_by_more_le (λ x. x) c.args.counts.now c.loop-count.count-index 0 low in
    omega (arith, c.loop-count.invariant.counted, c.loop-count.invariant.small, c.requires, within, product_small c.loop-count.smaller x (omega (arith, c.loop-count.invariant.counted, c.requires, within)))

pub overflow_add-smaller : goal.overflow_add-smaller
overflow_add-smaller c =
    let low = c.loop-count-test.true in
    let within = sum_by_more_le (λ x. x) c.args.counts.now c.loop-count.count-index 0 low in
    omega (arith, c.loop-count.invariant.counted, c.requires, within)

pub loop-count-init : goal.loop-count-init
loop-count-init c = record { counted = refl; all = omega arith; small = omega arith }

pub loop-count-preserved : goal.loop-count-preserved
loop-count-preserved c =
    let low = c.loop-count-test.true in
    let s = c.loop-count.smaller in
    let x = get_or c.args.counts.now c.loop-count.count-index 0 in
    let within = sum_by_more_le (λ x. x) c.args.counts.now c.loop-count.count-index 0 low in
    let more = greatest_more s c.args.counts.now c.loop-count.count-index low in
    record {
      counted = omega (arith, sum_by_more (λ x. x) c.args.counts.now c.loop-count.count-index 0 low, c.loop-count.invariant.counted);
      all = omega (arith, more, c.loop-count.invariant.all);
      small = omega (arith, c.loop-count.invariant.small, product_small s x (omega (arith, c.loop-count.invariant.counted, c.requires, within)));
    }

pub returns-clause-value : goal.returns-clause-value
returns-clause-value c =
    let none = greatest_all c.loop-count.smaller c.args.counts.now c.loop-count.count-index (omega arith) in
    omega (arith, none, c.loop-count.invariant.all)

pub returns-clause-small : goal.returns-clause-small
returns-clause-small c =
    let within = sum_by-take-le (λ x. x) c.args.counts.now c.loop-count.count-index in
    omega (arith, c.loop-count.invariant.counted, c.loop-count.invariant.small, c.requires, within)
