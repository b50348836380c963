use Rattle.std.proofs.Common.{drop}
use Rattle.std.specs.List.{flat_map}
use Rattle.sgb_print.proofs.TextPieces.{Writes}
use Rattle.sgb_print.proofs.print.put_all.Given as goal

abbrev pub invariant-loop-piece : goal.invariant-loop-piece
invariant-loop-piece g l = Writes l.initial.writer l.writer (flat_map (λ piece. piece.now) l.pieces) (flat_map (λ piece. piece.now) (drop l.piece-index l.pieces))
