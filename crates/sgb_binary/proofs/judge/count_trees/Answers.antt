use Rattle.std.proofs.Common.{◌∷◌, [], length, refl, sym, ap, ◌∙◌, arith}
use Rattle.sgb_binary.proofs.RowStacks.{one_row, one_room, no_trees}
use Rattle.sgb_binary.proofs.judge.count_trees.Goals as goal

pub returns-then-n-total-clause-ok : goal.returns-then-n-total-clause-ok
returns-then-n-total-clause-ok c =
    (omega (arith, ap (λ ws. length ws) (no_trees c.args.n c.args.most (omega (arith, c.room-total.ensures.value)) (omega arith))), omega arith)

pub count_rows-count-requires-clause-total : goal.count_rows-count-requires-clause-total
count_rows-count-requires-clause-total c = c.room-total.ensures.value ∙ sym (one_room c.args.most (c.args.most ∷ []) refl)

pub returns-then-count-gt-MOST_VERTICES-clause-err : goal.returns-then-count-gt-MOST_VERTICES-clause-err
returns-then-count-gt-MOST_VERTICES-clause-err c =
    (refl, omega (arith, c.count_rows-count.ensures.count, ap (λ ws. length ws) (one_row c.args.n c.args.most (c.args.most ∷ []) refl)))

pub returns-clause-ok : goal.returns-clause-ok
returns-clause-ok c =
    (omega (arith, c.count_rows-count.ensures.count, ap (λ ws. length ws) (one_row c.args.n c.args.most (c.args.most ∷ []) refl)), omega arith)
