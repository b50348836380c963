use Rattle.std.proofs.Common.{◌≡◌, ◌-◌, length}
use Rattle.sgb_make.proofs.Links.{links_from}
use Rattle.sgb_make.proofs.link.link.Given as goal

abbrev pub invariant-loop-done : goal.invariant-loop-done
invariant-loop-done l = l.tables.table.items ≡ links_from l.sides l.steps (length l.sides - l.done)
