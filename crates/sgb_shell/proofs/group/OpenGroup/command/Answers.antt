use Rattle.sgb_shell.proofs.UnitLines.{group_ends, group_ends_badly}
use Rattle.sgb_shell.proofs.group.OpenGroup.command.Goals as goal

pub returns-in_default : goal.returns-in_default
returns-in_default c u l held i = group_ends_badly u l c.args.self (c.in_default.ensures l held) i

pub returns-in-Ok : goal.returns-in-Ok
returns-in-Ok c u l held i = group_ends u l c.args.self c.in-Ok.list _ (c.in-Some.ensures l held).0 c.in-Ok.is i c.from_vec.ensures
