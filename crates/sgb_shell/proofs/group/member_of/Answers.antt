use Rattle.std.proofs.Common.{refl, ap, inl}
use Rattle.sgb_shell.specs.Group.{line_member}
use Rattle.sgb_shell.proofs.LineBytes.{long_line}
use Rattle.sgb_shell.proofs.group.member_of.Goals as goal

pub returns-in_default : goal.returns-in_default
returns-in_default c l held = inl (refl, ap line_member (long_line l (c.in_default.ensures l held)))
