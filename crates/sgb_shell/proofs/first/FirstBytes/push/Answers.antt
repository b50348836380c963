use Rattle.std.proofs.Common.{◌≡◌, ◌==◌, ◌∙◌, length, sym, ap, arith}
use Rattle.std.specs.Prelude.{◌&&◌}
use Rattle.sgb_shell.proofs.LineBytes.{viewed, first_leading, first_full, first_pushed}
use Rattle.sgb_shell.proofs.first.FirstBytes.push.Goals as goal

pub returns-then-is_leading : goal.returns-then-is_leading
returns-then-is_leading c line same =
    let bytes = c.as_slice.ensures.value ∙ ap (λ k. k.bytes) c.self.view_is in
    first_leading line _ c.args.byte same (ap (λ k. length k == 0 && c.args.byte == 32) (sym bytes) ∙ sym c.is_leading.ensures ∙ c.if-is_leading.true)

pub returns-then-len-lt-KEPT : goal.returns-then-len-lt-KEPT
returns-then-len-lt-KEPT c line same =
    let kept = c.self.inside in
    let other = ap (λ k. length k == 0 && c.args.byte == 32) (sym c.as_slice.ensures.value) ∙ sym c.is_leading.ensures ∙ c.if-is_leading.false in
    let size : length kept.bytes.items ≡ c.len.result = sym c.len.ensures.value in
    ap (λ bytes. viewed bytes kept.ends) c.push.ensures.items ∙ first_pushed line _ kept.ends c.args.byte (c.self.view_is ∙ same) other (omega arith)

pub returns-else-len-lt-KEPT : goal.returns-else-len-lt-KEPT
returns-else-len-lt-KEPT c line same =
    let kept = c.self.inside in
    let other = ap (λ k. length k == 0 && c.args.byte == 32) (sym c.as_slice.ensures.value) ∙ sym c.is_leading.ensures ∙ c.if-is_leading.false in
    let size : length kept.bytes.items ≡ c.len.result = sym c.len.ensures.value in
    ap (viewed kept.bytes.items) c.still_ends-self-inside.ensures ∙ first_full line _ kept.ends c.args.byte (c.self.view_is ∙ same) other (omega arith)
