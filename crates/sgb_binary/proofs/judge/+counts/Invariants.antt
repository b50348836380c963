use Rattle.std.proofs.Common.{◌+◌, ◌*◌}
use Rattle.sgb_binary.proofs.judge.+counts.Given as goal

-- the letters that are still to come, twice, and the caller last
abbrev pub decreases-count_rows : goal.decreases-count_rows
decreases-count_rows l = 4 * l.dots + 2 * l.waiting + 1

abbrev pub decreases-count_dotted : goal.decreases-count_dotted
decreases-count_dotted l = 4 * l.dots + 2 * l.waiting + 2

abbrev pub decreases-count_leaf : goal.decreases-count_leaf
decreases-count_leaf l = 4 * l.dots + 2 * l.waiting + 2
