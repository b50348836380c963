use Rattle.std.proofs.Common.{drop}
use Rattle.std.specs.List.{flat_map}
use Rattle.sgb_print.proofs.TextPieces.{Writes}
use Rattle.sgb_export.specs.Graphml.{entity, escaped}
use Rattle.sgb_export.proofs.graphml.put_escaped.Given as goal

abbrev pub invariant-loop-byte : goal.invariant-loop-byte
invariant-loop-byte g l = Writes l.initial.writer l.writer (escaped l.text) (flat_map entity (drop l.byte-index l.text))
