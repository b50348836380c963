use Rattle.std.proofs.Common.{◌≡◌, ◌+◌, pos, negsuc, unsigned_abs, int_lt, length, map, min, replicate, take, true, w64, to_z, of_z, refl, sym, ap, ◌∙◌, arith}
use Rattle.std.proofs.lemmas.Int.{to_z-of_z}
use Rattle.std.proofs.lemmas.List.{length-map, length-replicate, length-take}
use Rattle.std.proofs.lemmas.Result.{err_from_is_err_and}
use Rattle.sgb_plan.specs.Listing.{listed}
use Rattle.sgb_simplex.specs.Bounds.{bounds_of}
use Rattle.sgb_simplex.proofs.Fronts.{equal_bounds, listed_bounds, too_many, length_listed}
use Rattle.sgb_simplex.proofs.bounds.bounds_of.Goals as goal

pub returns-then-first-ltminus15-clause-err : goal.returns-then-first-ltminus15-clause-err
returns-then-first-ltminus15-clause-err c =
    let read : to_z w64 (of_z w64 c.args.first) ≡ c.args.first = to_z-of_z w64 c.args.first c.ranges.first in
    let many = too_many c.args.first (ap (λ z. int_lt z (negsuc 14)) (sym read) ∙ c.if-first-ltminus15.true) in
    (refl, omega (arith, many.0, ap length (equal_bounds c.args.total c.args.numbers.now c.args.first c.requires.first many.1), length-replicate (unsigned_abs c.args.first + 1) c.args.total))

pub returns-then-first-lt0-clause-list : goal.returns-then-first-lt0-clause-list
returns-then-first-lt0-clause-list c =
    let read : to_z w64 (of_z w64 c.args.first) ≡ c.args.first = to_z-of_z w64 c.args.first c.ranges.first in
    let below : int_lt c.args.first (pos 0) ≡ true = ap (λ z. int_lt z (pos 0)) (sym read) ∙ c.if-first-lt0.true in
    c.repeat_to.ensures
    ∙ (ap (λ n. replicate (n + 1) c.args.total) (c.unsigned_abs.ensures.value ∙ ap unsigned_abs read)
    ∙ sym (equal_bounds c.args.total c.args.numbers.now c.args.first c.requires.first below))

pub returns-in_err-width-clause-err : goal.returns-in_err-width-clause-err
returns-in_err-width-clause-err c =
    let p = err_from_is_err_and c.from_residual.result c.from_residual.ensures.1 in
    let read : to_z w64 (of_z w64 c.args.first) ≡ c.args.first = to_z-of_z w64 c.args.first c.ranges.first in
    let all : length (bounds_of c.args.total c.args.numbers.now) ≡ length (listed 1 c.args.numbers.now) =
    ap length (listed_bounds c.args.total c.args.numbers.now c.args.first c.requires.first (ap (λ z. int_lt z (pos 0)) (sym read) ∙ c.if-first-lt0.false))
    ∙ length-map (listed 1 c.args.numbers.now) (λ b. min b c.args.total) in
    rw (p.1, p.2) (c.in_err-width.ensures.err.0, omega (arith, c.in_err-width.ensures.err.1, all, length_listed 1 c.args.numbers.now))

pub returns-clause-list : goal.returns-clause-list
returns-clause-list c =
    let read : to_z w64 (of_z w64 c.args.first) ≡ c.args.first = to_z-of_z w64 c.args.first c.ranges.first in
    let long = length-take c.in_ok-width.width c.list_within.new.places in
    ap (λ k. take k c.cut_to.new.places) (omega (arith, long, c.in_ok-width.ensures.few, c.list_within.auto.places))
    ∙ (c.cut_to.ensures
    ∙ (ap (map (λ b. min b c.args.total)) c.in_ok-width.ensures.list
    ∙ sym (listed_bounds c.args.total c.args.numbers.now c.args.first c.requires.first (ap (λ z. int_lt z (pos 0)) (sym read) ∙ c.if-first-lt0.false))))
