use Rattle.std.proofs.Common.{refl, sym, ap, ◌∙◌}
use Rattle.sgb_shell.specs.Lines.{whole_lines, unfinished}
use Rattle.sgb_shell.specs.Private.Reaching.{ReaderView}
use Rattle.sgb_shell.proofs.Bytes.{ended_line, ended_none, few_lines}
use Rattle.sgb_shell.proofs.reader.LineReader.end_line.Goals as goal

pub returns-then-is_empty : goal.returns-then-is_empty
returns-then-is_empty g c held script few p =
    let holds = ap (λ (r : ReaderView). r.line) c.self.view_is ∙ p.holds in
    (ended_none held _ script _ p (sym (c.is_empty.ensures (unfinished script) holds) ∙ c.if-is_empty.true), refl)

pub returns : goal.returns
returns g c held script few p =
    let holds = ap (λ (r : ReaderView). r.line) c.self.view_is ∙ p.holds in
    ended_line held c.args.writer.now c.take_held.new.writer script _ c.take_held.result (sym (c.is_empty.ensures (unfinished script) holds) ∙ c.if-is_empty.false)
    (c.take_held.ensures held (whole_lines script) (unfinished script) (few_lines script few) p.reached p.holds).1
