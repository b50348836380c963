use Rattle.std.proofs.Common.{◌≡◌, ◌==◌, drop, map}
use Rattle.sgb_print.proofs.TextPieces.{Writes}
use Rattle.sgb_export.specs.Private.Packing.{IsSix, bytes_with, six_after}
use Rattle.sgb_export.proofs.graph6.put_column.Given as goal

abbrev pub invariant-loop-other : goal.invariant-loop-other
invariant-loop-other g l = record {
  bytes : Writes l.initial.writer l.writer (bytes_with l.fn.six (map (λ m. m == l.mark) l.marks))
      (bytes_with l.next (map (λ m. m == l.mark) (drop l.other-index l.marks)));
  next : six_after l.next (map (λ m. m == l.mark) (drop l.other-index l.marks)) ≡ six_after l.fn.six (map (λ m. m == l.mark) l.marks);
  six : IsSix l.next;
}
