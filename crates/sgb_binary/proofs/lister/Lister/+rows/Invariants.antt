use Rattle.std.proofs.Common.{◌+◌, ◌*◌, length}
use Rattle.sgb_binary.proofs.lister.Lister.+rows.Given as goal

-- the letters that are still to come, twice, and the caller last
abbrev pub decreases-list : goal.decreases-list
decreases-list l = 4 * l.dots + 2 * length l.self.now.budgets.items + 1

abbrev pub decreases-list_dotted : goal.decreases-list_dotted
decreases-list_dotted l = 4 * l.dots + 2 * length l.self.now.budgets.items + 2

abbrev pub decreases-list_leaf : goal.decreases-list_leaf
decreases-list_leaf l = 4 * l.dots + 2 * length l.self.now.budgets.items + 2
