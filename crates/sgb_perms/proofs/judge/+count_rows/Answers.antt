use Rattle.std.proofs.Common.{◌+◌, ◌-◌, ℕ, min, sym, ap, ◌∙◌, arith}
use Rattle.std.proofs.lemmas.List.{nil_from_length}
use Rattle.sgb_perms.specs.Private.Counted.{copies_counted, rows_counted}
use Rattle.sgb_perms.proofs.RowCounts.{one_counted, none_counted, kind_counted, no_kind_counted, count_step, count_over, count_end}
use Rattle.sgb_perms.proofs.judge.+count_rows.Goals as goal

pub returns-in-Some : goal.returns-in-Some
returns-in-Some t c =
    let none = none_counted c.args.copies (rows_counted c.args.others.now c.args.long) c.args.right c.args.left c.if-copies-eq0.true in
    let next = kind_counted c.in-Some.next.now c.args.long c.args.left c.args.others.now c.in-Some.others.now c.in-Some.ensures.cases.0 in
    omega (arith, c.count_rows.ensures, none, next)

pub returns-in-None : goal.returns-in-None
returns-in-None t c =
    let none = none_counted c.args.copies (rows_counted c.args.others.now c.args.long) c.args.right c.args.left c.if-copies-eq0.true in
    let last = no_kind_counted c.args.long c.args.left c.args.others.now (nil_from_length c.args.others.now c.in-None.ensures.cases) in
    omega (arith, none, last, c.requires.few)

pub returns-then-count-gt-MOST_VERTICES : goal.returns-then-count-gt-MOST_VERTICES
returns-then-count-gt-MOST_VERTICES t c =
    let next : ℕ → ℕ = rows_counted c.args.others.now c.args.long in
    let g : ℕ → ℕ = λ x. copies_counted (c.args.copies - 1) next x (c.args.left - x) in
    count_over {g = g} c.loop-x.invariant.left (omega (arith, c.min-x-end.ensures)) c.count_rows-count.ensures (omega arith)
    ∙ ap (λ n. min 65536 (c.args.found + n)) (sym (one_counted c.args.copies next c.args.right c.args.left (omega (arith, c.if-copies-eq0.false))))

pub loop-x-preserved : goal.loop-x-preserved
loop-x-preserved t c =
    let g : ℕ → ℕ = λ x. copies_counted (c.args.copies - 1) (rows_counted c.args.others.now c.args.long) x (c.args.left - x) in
    record {
      left = count_step {g = g} c.loop-x.invariant.left (omega (arith, c.min-x-end.ensures)) c.count_rows-count.ensures (omega arith);
      few = omega arith;
    }

pub returns : goal.returns
returns t c =
    let next : ℕ → ℕ = rows_counted c.args.others.now c.args.long in
    let g : ℕ → ℕ = λ x. copies_counted (c.args.copies - 1) next x (c.args.left - x) in
    count_end {g = g} c.loop-x.invariant.left (omega (arith, c.min-x-end.ensures)) c.loop-x.invariant.few
    ∙ ap (λ n. min 65536 (c.args.found + n)) (sym (one_counted c.args.copies next c.args.right c.args.left (omega (arith, c.if-copies-eq0.false))))
