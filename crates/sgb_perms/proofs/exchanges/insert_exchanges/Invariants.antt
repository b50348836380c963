use Rattle.std.proofs.Common.{length}
use Rattle.sgb_graph.proofs.InsertionRuns.{LeftFrom}
use Rattle.sgb_perms.specs.Perms.{exchanges, exchanges_of, row_at}
use Rattle.sgb_perms.proofs.exchanges.insert_exchanges.Given as goal

abbrev pub invariant-loop-v : goal.invariant-loop-v
invariant-loop-v l =
    LeftFrom l.fn.builder (exchanges l.rows.rows) l.builder (λ v. exchanges_of l.rows.rows v (row_at l.rows.rows v)) l.v (length l.rows.rows)
