use Rattle.sgb_combine.specs.Private.Rows.{AreRows, row_of}
use Rattle.sgb_combine.proofs.rows.Rows.read.Given as goal

abbrev pub invariant-loop-v : goal.invariant-loop-v
invariant-loop-v l = AreRows (row_of l.all l.directed l.graph) l.v l.spokes.items l.starts.items
