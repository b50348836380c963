use Rattle.std.proofs.Common.{◌==◌, sym, ◌∙◌, refl, get_or}
use Rattle.sgb_print.proofs.TextPieces.{writes_none, prints_all, writes_piece, fails_piece}
use Rattle.sgb_export.proofs.PackedBits.{bits_one, bits_none, six_one, six_none, marks_one, marks_none}
use Rattle.sgb_export.specs.Private.Packing.{six_with}
use Rattle.sgb_export.proofs.graph6.put_column.Goals as goal

pub loop-other-init : goal.loop-other-init
loop-other-init g c = record { bytes = writes_none; next = refl; six = c.requires }

pub returns-in_err-next-clause-written : goal.returns-in_err-next-clause-written
returns-in_err-next-clause-written g c =
    let m = c.args.mark in
    let i = c.loop-other.other-index in
    let s = c.loop-other.next in
    let marks = c.args.marks.now in
    fails_piece _ c.loop-other.invariant.bytes c.in_err-next.ensures.written
    (bits_one s (six_with s (get_or marks i 0 == m)) (get_or marks i 0 == m) _ _ (marks_one m i marks c.loop-other-test.true) refl) c.from_residual.ensures.0

pub loop-other-preserved : goal.loop-other-preserved
loop-other-preserved g c =
    let m = c.args.mark in
    let i = c.loop-other.other-index in
    let s = c.loop-other.next in
    let marks = c.args.marks.now in
    let steps = marks_one m i marks c.loop-other-test.true in
    let is = c.in_ok-next.ensures.next in record {
      bytes = writes_piece c.loop-other.invariant.bytes c.in_ok-next.ensures.written (bits_one s c.in_ok-next.next (get_or marks i 0 == m) _ _ steps is);
      next = sym (six_one s c.in_ok-next.next (get_or marks i 0 == m) _ _ steps is) ∙ c.loop-other.invariant.next;
      six = c.in_ok-next.ensures.six;
    }

pub returns-clause-written : goal.returns-clause-written
returns-clause-written g c =
    prints_all c.loop-other.invariant.bytes (bits_none c.loop-other.next _ (marks_none c.args.mark c.loop-other.other-index c.args.marks.now c.loop-other-test.false))

pub returns-clause-next : goal.returns-clause-next
returns-clause-next g c =
    sym (six_none c.loop-other.next _ (marks_none c.args.mark c.loop-other.other-index c.args.marks.now c.loop-other-test.false)) ∙ c.loop-other.invariant.next
