use Rattle.std.proofs.Common.{refl, ap, inl}
use Rattle.sgb_shell.specs.Private.Gathering.{is_group}
use Rattle.sgb_shell.proofs.LineBytes.{long_line}
use Rattle.sgb_shell.proofs.group.begun_by.Goals as goal

pub returns-in_default : goal.returns-in_default
returns-in_default c l held = inl (refl, inl (ap is_group (long_line l (c.in_default.ensures l held))))
