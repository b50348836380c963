use Rattle.std.proofs.Common.{rules, ◌≡◌, ◌%◌, length, get_or, pos, unsigned_abs, ap, arith, ◌∙◌, FitsSigned, w64}
use Rattle.std.proofs.lemmas.Int.{to_z-of_z}
use Rattle.std.proofs.lemmas.List.FromFn.{length-map-range_with_len}
use Rattle.sgb_plan.specs.Listing.{listed_at}
use Rattle.sgb_plan.proofs.SizeLists.{place_is_listed, listed_more}
use Rattle.sgb_plan.proofs.listing.list_of.Goals as goal

pub bounds-numbers-i : goal.bounds-numbers-i
bounds-numbers-i c = place_is_listed c.args.more c.args.numbers.now c.loop-i.i c.leading-period.result c.count_of-count.result c.leading-period.ensures c.count_of-count.ensures c.loop-i-test.true

pub loop-i-preserved : goal.loop-i-preserved
loop-i-preserved c =
    let fits : FitsSigned w64 (get_or c.args.numbers.now (c.loop-i.i % c.leading-period.result) (pos 0)) = search rules in
    listed_more c.args.numbers.now c.loop-i.i c.leading-period.result c.unsigned_abs.result c.loop-i.list.items c.push.new.self.items c.leading-period.ensures c.loop-i.invariant c.in_ok-push.ensures.items (c.unsigned_abs.ensures.value ∙ ap unsigned_abs (to_z-of_z w64 (get_or c.args.numbers.now (c.loop-i.i % c.leading-period.result) (pos 0)) fits))

pub returns-clause-few : goal.returns-clause-few
returns-clause-few c =
    let count : length c.loop-i.list.items ≡ c.loop-i.i = ap length c.loop-i.invariant ∙ length-map-range_with_len (listed_at c.args.numbers.now) 0 c.loop-i.i in
    omega (arith, count, c.if-count-most.false, c.loop-i.auto.i-end)
