use Rattle.std.proofs.Common.{◌≡◌, ◌+◌, ◌∷◌, [], ◌++◌, ℕ, List, length, drop, sym, ap, ◌∙◌, arith}
use Rattle.std.proofs.lemmas.List.{length_push}
use Rattle.sgb_simplex.specs.Private.Counts.{counted_below}
use Rattle.sgb_simplex.proofs.Rows.{row_step, first_pushed, pushed}
use Rattle.sgb_simplex.proofs.Simplices.{below_none}
use Rattle.sgb_simplex.proofs.counts.next_row.Goals as goal

pub loop-s-init : goal.loop-s-init
loop-s-init c =
    let bs : List ℕ = drop c.args.place c.args.bounds.now in
    let start = c.in_ok-push.ensures.items in
    let none = c.in_ok-next.ensures.items in
    record {
      sum = sym (below_none bs);
      small = omega arith;
      long = ap length (start ∙ ap (λ l. l ++ 0 ∷ []) none);
      at = first_pushed (counted_below bs) c.in_ok-next.next.items c.push.new.self.items 0 start none (sym (below_none bs));
    }

pub overflow_sub-ways-in-loop-s : goal.overflow_sub-ways-in-loop-s
overflow_sub-ways-in-loop-s c =
    (row_step c.args.bounds.now c.args.place c.args.total c.loop-s.s c.min.result c.args.row.now c.requires.place (omega arith) c.requires.row (omega arith)).ordered

pub loop-s-preserved : goal.loop-s-preserved
loop-s-preserved c =
    let bs : List ℕ = drop c.args.place c.args.bounds.now in
    let step = row_step c.args.bounds.now c.args.place c.args.total c.loop-s.s c.min.result c.args.row.now c.requires.place (omega arith) c.requires.row (omega arith) in
    let sum : c.loop-s.sum + c.min-sum.result ≡ counted_below bs (c.loop-s.s + 1) = omega (arith, step.more, c.loop-s.invariant.sum) in
    let items = c.in_ok-push-2.ensures.items in
    record {
      sum = sum;
      small = omega arith;
      long = ap length items ∙ (length_push c.loop-s.next.items (c.loop-s.sum + c.min-sum.result) ∙ ap (λ n. n + 1) c.loop-s.invariant.long);
      at = pushed (counted_below bs) c.loop-s.next.items c.push-in-loop-s.new.self.items (c.loop-s.sum + c.min-sum.result) c.loop-s.s items c.loop-s.invariant.long c.loop-s.invariant.at sum;
    }
