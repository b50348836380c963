use Rattle.std.proofs.Common.{◌≡◌, ◌+◌, ◌-◌, ◌*◌, ◌^◌, ◌%◌, ◌<◌, ◌≤◌, ℕ, List, length, take, drop, refl, sym, ap, ap₂, subst, ◌∙◌, arith}
use Rattle.std.specs.List.{sum, slice_index}
use Rattle.std.proofs.lemmas.List.{get_or_read}
use Rattle.std.proofs.lemmas.List.Sums.{sum_by_more, sum_by-take-le}
use Rattle.sgb_simplex.specs.Private.Codes.{code_from}
use Rattle.sgb_simplex.proofs.Ones.{CodeStep, code_step, code_more, code_end}
use Rattle.sgb_simplex.proofs.coded.code_of.Goals as goal

step : (bs : List ℕ) (code i b x m : ℕ) → 2 ^ 64 ≡ m → i < length bs → b ≡ slice_index bs i → x ≤ slice_index bs i → sum bs < 64 → code < 2 ^ sum (take i bs) → CodeStep code b x (sum (take i bs)) m
step bs code i b x m is inside at less room small =
    code_step code b x (sum (take i bs)) m is small (omega (arith, at, room, sum_by_more (λ y. y) bs i 0 inside, sum_by-take-le (λ y. y) bs (i + 1))) (omega (arith, at, less))

pub overflow_add-code : goal.overflow_add-code
overflow_add-code c =
    let bs : List ℕ = c.args.list.now.bounds.items in
    let i : ℕ = c.loop-i.i in
    let b : ℕ = c.index.result.now in
    let at : b ≡ slice_index bs i = get_or_read bs i b (omega (arith, c.requires.point.long)) c.index.ensures 0 in
    let one = step bs c.loop-i.code i b (slice_index c.args.point.now i) 18446744073709551616 refl (omega (arith, c.requires.point.long)) at (c.requires.point.within i (omega (arith, c.requires.point.long))) c.requires.room c.loop-i.invariant.below in
    record { fits = omega (arith, one.shifted, one.bit, one.fits) }

pub loop-i-preserved : goal.loop-i-preserved
loop-i-preserved c =
    let bs : List ℕ = c.args.list.now.bounds.items in
    let t : List ℕ = c.args.point.now in
    let i : ℕ = c.loop-i.i in
    let b : ℕ = c.index.result.now in
    let inside : i < length bs = omega (arith, c.requires.point.long) in
    let at : b ≡ slice_index bs i = get_or_read bs i b inside c.index.ensures 0 in
    let one = step bs c.loop-i.code i b (slice_index t i) 18446744073709551616 refl inside at (c.requires.point.within i inside) c.requires.room c.loop-i.invariant.below in
    let value : c.loop-i.code * 2 ^ b % 18446744073709551616 + (1 * 2 ^ slice_index t i % 18446744073709551616 - 1) ≡ c.loop-i.code * 2 ^ slice_index bs i + (2 ^ slice_index t i - 1) =
    ap₂ (λ p q. p + (q - 1)) (one.shifted ∙ ap (λ e. c.loop-i.code * 2 ^ e) at) one.bit in
    let total : sum (take (i + 1) bs) ≡ sum (take i bs) + b = sum_by_more (λ y. y) bs i 0 inside ∙ ap (λ e. sum (take i bs) + e) (sym at) in
    let new : c.loop-i.code * 2 ^ b % 18446744073709551616 + (1 * 2 ^ slice_index t i % 18446744073709551616 - 1) ≡ c.loop-i.code * 2 ^ b + (2 ^ slice_index t i - 1) = ap₂ (λ p q. p + (q - 1)) one.shifted one.bit in
    record {
      same = ap (λ n. code_from n (drop (i + 1) bs) (drop (i + 1) t)) value ∙ (sym (code_more c.loop-i.code bs t i inside (omega arith)) ∙ c.loop-i.invariant.same);
      below = subst (λ e. c.loop-i.code * 2 ^ b % 18446744073709551616 + (1 * 2 ^ slice_index t i % 18446744073709551616 - 1) < 2 ^ e) (sym total)
          (subst (λ n. n < 2 ^ (sum (take i bs) + b)) (sym new) one.below);
    }

pub returns : goal.returns
returns c = sym (code_end c.loop-i.code c.args.list.now.bounds.items c.args.point.now c.loop-i.i (omega (arith, c.requires.point.long))) ∙ c.loop-i.invariant.same
