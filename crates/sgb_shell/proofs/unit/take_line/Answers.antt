use Rattle.std.proofs.Common.{◌∙◌, sym}
use Rattle.sgb_shell.proofs.Progress.{still_waits}
use Rattle.sgb_shell.proofs.unit.take_line.Goals as goal

pub returns : goal.returns
returns c before l held waits begun =
    still_waits before _ c.in-Some.unit _ c.args.number l _ (sym c.in-Some.ensures.value) waits
    (λ u i. (sym (c.closes.ensures u l held i) ∙ c.if-closes.false, c.take_line.ensures u l held i))
