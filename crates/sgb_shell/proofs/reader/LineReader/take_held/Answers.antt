use Rattle.std.proofs.Common.{subst, sym, ap, ◌∙◌}
use Rattle.sgb_shell.specs.Private.Reaching.{ReaderView, Reached}
use Rattle.sgb_shell.proofs.reader.LineReader.take_held.Goals as goal

pub returns : goal.returns
returns g c held ls line few reached is =
    let of = sym c.self.view_is in
    (c.clear.ensures, c.take_line-taken.ensures held ls line few (c.line.ensures line (ap (λ (r : ReaderView). r.line) c.self.view_is ∙ is)) (subst (λ (r : ReaderView). Reached held c.args.writer.now.held ls r.shell) of reached))
