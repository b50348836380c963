use Rattle.sgb_shell.proofs.UnitLines.{text_opened}
use Rattle.sgb_shell.proofs.text.OpenText.new.Goals as goal

pub returns : goal.returns
returns c number l held takes = text_opened number l c.begun_by.result (c.begun_by.ensures l held) takes
