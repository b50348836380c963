use Rattle.std.proofs.Common.{◌≡◌, map}
use Rattle.sgb_import.specs.Edges.{id_in}
use Rattle.sgb_import.specs.Lines.{lines}
use Rattle.sgb_import.specs.Refusal.{first_some}
use Rattle.sgb_import.proofs.edges_id.find_id.Given as goal

abbrev pub invariant-loop-line : goal.invariant-loop-line
invariant-loop-line l = first_some (map id_in l.line-iterator) ≡ first_some (map id_in (lines l.text))
