use Rattle.std.proofs.Common.{drop}
use Rattle.std.specs.List.{flat_map}
use Rattle.sgb_print.specs.Show.{field_text}
use Rattle.sgb_print.proofs.TextPieces.{Writes}
use Rattle.sgb_print.proofs.show.end_with_fields.Given as goal

abbrev pub invariant-loop-name : goal.invariant-loop-name
invariant-loop-name g l = Writes l.initial.writer l.writer
    (flat_map (λ p. field_text p.0.now p.1.now) l.fields) (flat_map (λ p. field_text p.0.now p.1.now) (drop l.name-index l.fields))
