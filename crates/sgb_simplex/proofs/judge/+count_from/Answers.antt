use Rattle.std.proofs.Common.{◌≡◌, ◌+◌, ◌∷◌, ℕ, List, get_or, drop, ap, arith}
use Rattle.std.specs.List.{sum}
use Rattle.std.proofs.lemmas.List.{drop_more, length-drop}
use Rattle.sgb_simplex.proofs.PointCounts.{count_start, count_step, count_over, count_end, one_point}
use Rattle.sgb_simplex.proofs.Simplices.{sum_cons}
use Rattle.sgb_simplex.proofs.judge.+count_from.Goals as goal

pub returns-then-bounds-place-le1 : goal.returns-then-bounds-place-le1
returns-then-bounds-place-le1 t c =
    let rest : List ℕ = drop c.args.place c.args.bounds.now in
    omega (arith, one_point c.args.left rest (omega (arith, length-drop c.args.place c.args.bounds.now)) (omega arith))

pub loop-x-init : goal.loop-x-init
loop-x-init t c =
    let bounds : List ℕ = c.args.bounds.now in
    let place : ℕ = c.args.place in
    let b : ℕ = get_or bounds place 0 in
    let rest : List ℕ = drop (place + 1) bounds in
    let cut : drop place bounds ≡ b ∷ rest = drop_more bounds place 0 (omega arith) in
    let parts : sum (drop place bounds) ≡ sum (b ∷ rest) = ap sum cut in
    record {
      left = count_start c.args.found c.args.left b (drop place bounds) rest c.saturating_sub-x.result (c.min-x-end.result + 1) cut (omega arith) (omega (arith, parts, sum_cons b rest)) (omega arith);
      few = c.requires.few;
    }

pub returns-then-count-gt65535 : goal.returns-then-count-gt65535
returns-then-count-gt65535 t c = count_over c.loop-x.invariant.left (omega arith) c.count_from-count.ensures (omega arith)

pub loop-x-preserved : goal.loop-x-preserved
loop-x-preserved t c = record {
  left = count_step c.loop-x.invariant.left (omega arith) c.count_from-count.ensures (omega arith);
  few = omega arith;
}

pub returns : goal.returns
returns t c = count_end c.loop-x.invariant.left (omega arith) c.loop-x.invariant.few
