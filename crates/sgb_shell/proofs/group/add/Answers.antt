use Rattle.std.proofs.Common.{subst}
use Rattle.sgb_shell.specs.Private.Gathering.{Collects}
use Rattle.sgb_shell.proofs.UnitLines.{group_longer}
use Rattle.sgb_shell.proofs.group.add.Goals as goal

pub returns-in_default-put : goal.returns-in_default-put
returns-in_default-put c first old more has reads i =
    let so_far = subst (Collects first old has) c.in-Ok.is i in
    group_longer first old more has c.in-Ok.list c.put.new.list so_far (c.in_default-put.ensures more so_far.2 reads)
