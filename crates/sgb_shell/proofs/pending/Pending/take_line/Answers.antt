use Rattle.std.proofs.Common.{subst}
use Rattle.sgb_shell.specs.Private.Gathering.{GathersUnit}
use Rattle.sgb_shell.proofs.pending.Pending.take_line.Goals as goal

pub returns-in-Text : goal.returns-in-Text
returns-in-Text c u l held i = record { number = i.number; lines = c.take_line.ensures u l held (subst (GathersUnit u) c.in-Text.is i.lines) }

pub returns-in-Group : goal.returns-in-Group
returns-in-Group c u l held i = record { number = i.number; lines = c.take_line-in-Group.ensures u l held (subst (GathersUnit u) c.in-Group.is i.lines) }
