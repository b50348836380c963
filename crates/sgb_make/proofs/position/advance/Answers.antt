use Rattle.std.proofs.Common.{◌≡◌, ◌+◌, ◌-◌, ℕ, length, get_or, false, subst, arith}
use Rattle.sgb_make.specs.declared.side.Side.{Side}
use Rattle.sgb_make.proofs.Advances.{Counted, length-on, on-at, on-set, counted_start, counted_more, counted_up, counted_all}
use Rattle.sgb_make.proofs.position.advance.Goals as goal

pub loop-done-init : goal.loop-done-init
loop-done-init c = counted_start c.args.sides.now c.args.position.now _ (omega arith) c.requires

pub bounds-position-k : goal.bounds-position-k
bounds-position-k c = omega (arith, length-on c.args.sides.now c.loop-done.position c.loop-done.invariant.on)

pub overflow_add-position : goal.overflow_add-position
overflow_add-position c =
    let d : Side = record { size = 0; wraps = false } in
    let k : ℕ = length c.args.sides.now - 1 - c.loop-done.done in
    let low = on-at c.args.sides.now c.loop-done.position k d (omega arith) c.loop-done.invariant.on in
    record { fits = omega (arith, low, c.loop-done-test.element_fits.fits) }

pub bounds-position-k-then-position-k : goal.bounds-position-k-then-position-k
bounds-position-k-then-position-k c = omega (arith, length-on c.args.sides.now c.loop-done.position c.loop-done.invariant.on)

pub bounds-position-k-then-position-k-2 : goal.bounds-position-k-then-position-k-2
bounds-position-k-then-position-k-2 c = omega (arith, length-on c.args.sides.now c.loop-done.position c.loop-done.invariant.on)

pub returns-then-position-k-clause-on : goal.returns-then-position-k-clause-on
returns-then-position-k-clause-on c =
    let d : Side = record { size = 0; wraps = false } in
    let k : ℕ = length c.args.sides.now - 1 - c.loop-done.done in
    on-set c.args.sides.now c.loop-done.position k (get_or c.loop-done.position k 0 + 1) d (omega arith) c.if-position-k.true c.loop-done.invariant.on

pub returns-then-position-k-clause-next : goal.returns-then-position-k-clause-next
returns-then-position-k-clause-next c =
    let d : Side = record { size = 0; wraps = false } in
    λ more. counted_up d (omega arith) (omega arith) c.loop-done.invariant

pub bounds-position-k-in-loop-done : goal.bounds-position-k-in-loop-done
bounds-position-k-in-loop-done c = omega (arith, length-on c.args.sides.now c.loop-done.position c.loop-done.invariant.on)

pub loop-done-preserved : goal.loop-done-preserved
loop-done-preserved c =
    let d : Side = record { size = 0; wraps = false } in
    let k : ℕ = length c.args.sides.now - 1 - c.loop-done.done in
    let is : k ≡ length c.args.sides.now - (c.loop-done.done + 1) = omega arith in
    subst (Counted c.args.sides.now c.args.position.now _) is
    (counted_more d (omega arith) (omega arith) c.if-position-k.false c.loop-done.invariant)

pub returns-clause-on : goal.returns-clause-on
returns-clause-on c = c.loop-done.invariant.on

pub returns-clause-next : goal.returns-clause-next
returns-clause-next c = λ more. absurd (counted_all (omega arith) more c.loop-done.invariant)
