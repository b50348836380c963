use Rattle.std.proofs.Common.{rules, ◌≡◌, ◌+◌, ◌%◌, ℕ, List, get_or, set, map, take, pos, unsigned_abs, sym, ap, arith, ◌∙◌, FitsSigned, w64}
use Rattle.std.specs.List.{range_with_len}
use Rattle.std.proofs.lemmas.Int.{to_z-of_z}
use Rattle.std.proofs.lemmas.List.{take_more_set}
use Rattle.sgb_plan.specs.Listing.{listed, listed_at}
use Rattle.sgb_plan.proofs.SizeLists.{place_is_listed, listed_more}
use Rattle.sgb_simplex.proofs.listing.list_within.Goals as goal

pub bounds-numbers-i : goal.bounds-numbers-i
bounds-numbers-i c = place_is_listed c.args.more c.args.numbers.now c.loop-i.i c.leading-period.result c.count_of-count.result c.leading-period.ensures c.count_of-count.ensures (omega arith)

pub loop-i-preserved : goal.loop-i-preserved
loop-i-preserved c =
    let fits : FitsSigned w64 (get_or c.args.numbers.now (c.loop-i.i % c.leading-period.result) (pos 0)) = search rules in
    let places : List ℕ = c.loop-i.places in
    let x : ℕ = c.unsigned_abs.result in
    listed_more c.args.numbers.now c.loop-i.i c.leading-period.result x (take c.loop-i.i places) (take (c.loop-i.i + 1) (set places c.loop-i.i x)) c.leading-period.ensures c.loop-i.invariant
    (take_more_set places c.loop-i.i x (omega arith))
    (c.unsigned_abs.ensures.value ∙ ap unsigned_abs (to_z-of_z w64 (get_or c.args.numbers.now (c.loop-i.i % c.leading-period.result) (pos 0)) fits))

pub returns-clause-list : goal.returns-clause-list
unfolding listed
returns-clause-list c =
    let all : c.loop-i.i ≡ c.count_of-count.result = omega arith in
    ap (λ k. take k c.loop-i.places) (sym all)
    ∙ (c.loop-i.invariant ∙ ap (λ k. map (listed_at c.args.numbers.now) (range_with_len 0 k)) (all ∙ c.count_of-count.ensures))
