use Rattle.std.proofs.Common.{◌&&◌, ap, sym, ◌∙◌, arith, take}
use Rattle.std.specs.List.{list_all}
use Rattle.std.proofs.lemmas.List.{take_all}
use Rattle.std.proofs.lemmas.List.Folds.{list_all_more}
use Rattle.sgb_script.specs.Line.{is_printable_byte}
use Rattle.sgb_script.proofs.line.is_printable.Goals as goal

pub bytes-preserved : goal.bytes-preserved
bytes-preserved c =
    let line = c.args.line.now in
    let i = c.bytes.byte-index in
    ap (λ b. b && c.is_printable_byte-all.result) c.bytes.invariant
    ∙ ap (λ b. list_all is_printable_byte (take i line) && b) c.is_printable_byte-all.ensures
    ∙ sym (list_all_more is_printable_byte line i 0 c.bytes-test.true)

pub returns : goal.returns
returns c = c.bytes.invariant ∙ ap (list_all is_printable_byte) (take_all c.bytes.byte-index c.args.line.now (omega arith))
