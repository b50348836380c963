use Rattle.sgb_shell.proofs.UnitLines.{group_begun}
use Rattle.sgb_shell.proofs.group.OpenGroup.new.Goals as goal

pub returns : goal.returns
returns c number l held other takes = group_begun number l c.begun_by.result other takes (c.begun_by.ensures l held)
