use Rattle.std.proofs.Common.{◌++◌, sym, ◌∙◌, subst}
use Rattle.sgb_shell.specs.Lines.{whole_lines, unfinished}
use Rattle.sgb_shell.specs.Private.Reaching.{Progress}
use Rattle.sgb_shell.proofs.Bytes.{few_lines, whole_taken}
use Rattle.sgb_shell.proofs.reader.LineReader.take_end.Goals as goal

pub returns-then-is_whole : goal.returns-then-is_whole
returns-then-is_whole g c held script few p =
    whole_taken held _ _ script c.args.end.now _ _ _ (sym (c.is_whole.ensures (unfinished script) p.holds) ∙ c.if-is_whole.true)
    (subst (Progress held _ script) (sym c.self.view_is) p)
    (λ l is. c.take_line.ensures held (whole_lines script) l (few_lines script few) is)

pub returns : goal.returns
returns g c held script few p =
    let q = subst (Progress held _ script) (sym c.self.view_is) p in
    let taken = c.take_held.ensures held (whole_lines script) (unfinished script ++ c.args.end.now) (few_lines script few) q.reached (c.extend.ensures (unfinished script) q.holds) in
    record { line = taken.0; finishes = taken.1 }
