use Rattle.std.proofs.Common.{Result, Ok, Err, is_ok, OnOk, if◌then◌else◌, ◌≡◌, ◌+◌, ◌-◌, ◌∷◌, [], ◌++◌, ℕ, List, get_or, set, take, drop, refl, sym, ap, ◌∙◌, arith}
use Rattle.std.specs.List.{sum}
use Rattle.std.proofs.lemmas.List.{drop_all, drop_more, take_more_set}
use Rattle.sgb_simplex.specs.Points.{points}
use Rattle.sgb_simplex.proofs.Simplices.{sum_cons}
use Rattle.sgb_simplex.proofs.Written.{written, written_all, left_start, left_step, left_end, kept_prefix}
use Rattle.sgb_simplex.proofs.list.+list_from.Goals as goal

on_ok : {T E : Type 0} (r : Result T E) (new whole old : List ℕ) → new ≡ (if is_ok r then whole else old) → OnOk r (new ≡ whole)
on_ok (Ok x) new whole old is = is
on_ok (Err e) new whole old is = tt

pub returns-then-place-bounds-clause-ok : goal.returns-then-place-bounds-clause-ok
returns-then-place-bounds-clause-ok t c =
    let none : drop c.args.place c.args.bounds.now ≡ [] = drop_all c.args.place c.args.bounds.now (omega arith) in
    let empty : sum (drop c.args.place c.args.bounds.now) ≡ 0 = ap sum none in
    let all = written_all c.args.bounds.now c.args.point.now c.args.place c.args.left (omega arith) (omega arith) (omega (arith, empty)) in
    let old : List ℕ = c.args.list.now.items in
    on_ok c.extend_from_slice.result c.extend_from_slice.new.self.items (old ++ written (take c.args.place c.args.point.now) (points c.args.left (drop c.args.place c.args.bounds.now))) old
    (c.extend_from_slice.ensures.items ∙ ap (λ l. if is_ok c.extend_from_slice.result then old ++ l else old) (sym all))

pub returns-in_err-list_from-clause-kept : goal.returns-in_err-list_from-clause-kept
returns-in_err-list_from-clause-kept t c =
    kept_prefix c.args.place c.loop-x.x c.loop-x.point c.list_from.new.point c.args.point.now c.list_from.ensures.kept c.loop-x.invariant.kept

pub loop-x-init : goal.loop-x-init
loop-x-init t c =
    let bounds : List ℕ = c.args.bounds.now in
    let place : ℕ = c.args.place in
    let b : ℕ = get_or bounds place 0 in
    let rest : List ℕ = drop (place + 1) bounds in
    let cut : drop place bounds ≡ b ∷ rest = drop_more bounds place 0 (omega arith) in
    let parts : sum (drop place bounds) ≡ sum (b ∷ rest) = ap sum cut in
    record {
      left = left_start c.args.list.now.items (take place c.args.point.now) c.args.left b (drop place bounds) rest c.saturating_sub-x.result (c.min-x-end.result + 1) cut (omega arith) (omega (arith, parts, sum_cons b rest)) (omega arith);
      kept = refl;
    }

pub loop-x-preserved : goal.loop-x-preserved
loop-x-preserved t c =
    let bounds : List ℕ = c.args.bounds.now in
    let place : ℕ = c.args.place in
    let x : ℕ = c.loop-x.x in
    let point : List ℕ = c.loop-x.point in
    let prefix : take (place + 1) (set point place x) ≡ take place c.args.point.now ++ x ∷ [] = take_more_set point place x (omega arith) ∙ ap (λ l. l ++ x ∷ []) c.loop-x.invariant.kept in
    record {
      left = left_step c.loop-x.invariant.left (omega arith)
          (c.in_ok-list_from.ensures.ok ∙ ap (λ p. c.loop-x.list.items ++ written p (points (c.args.left - x) (drop (place + 1) bounds))) prefix);
      kept = kept_prefix place x point c.list_from.new.point c.args.point.now c.list_from.ensures.kept c.loop-x.invariant.kept;
    }

pub returns-clause-ok : goal.returns-clause-ok
returns-clause-ok t c = left_end c.loop-x.invariant.left (omega arith)
