use Rattle.std.proofs.Common.{◌-◌, List, ℕ, length, take, drop, refl, arith}
use Rattle.std.proofs.lemmas.List.{take_rest}
use Rattle.sgb_perms.proofs.RowCounts.{all_counted}
use Rattle.sgb_perms.proofs.judge.count_arrangements.Goals as goal

pub returns-then-count-gt-MOST_VERTICES-clause-err : goal.returns-then-count-gt-MOST_VERTICES-clause-err
returns-then-count-gt-MOST_VERTICES-clause-err c =
    let counts : List ℕ = c.args.counts.now in
    let all = all_counted counts (take (length counts - 1) (drop 1 counts)) c.args.most c.requires.some (take_rest counts 1) in
    (refl, omega (arith, c.count_rows-count.ensures, all))

pub returns-clause-ok : goal.returns-clause-ok
returns-clause-ok c =
    let counts : List ℕ = c.args.counts.now in
    let all = all_counted counts (take (length counts - 1) (drop 1 counts)) c.args.most c.requires.some (take_rest counts 1) in
    (omega (arith, c.count_rows-count.ensures, all), omega arith)
