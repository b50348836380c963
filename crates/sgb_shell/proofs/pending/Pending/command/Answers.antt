use Rattle.std.proofs.Common.{subst}
use Rattle.sgb_shell.specs.Private.Gathering.{GathersUnit}
use Rattle.sgb_shell.proofs.UnitLines.{text_ends}
use Rattle.sgb_shell.proofs.pending.Pending.command.Goals as goal

pub returns-in_ok-command-in-Text : goal.returns-in_ok-command-in-Text
returns-in_ok-command-in-Text c u l held ends i =
    let text = subst (GathersUnit u) c.in-Text.is i.lines in
    text_ends u l c.in-Text.text _ ends text (c.in_ok-command-in-Text.ensures u text)

pub returns-in-Group : goal.returns-in-Group
returns-in-Group c u l held ends i = c.command-in-Group.ensures u l held (subst (GathersUnit u) c.in-Group.is i.lines)
