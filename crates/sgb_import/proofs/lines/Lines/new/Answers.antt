use Rattle.sgb_import.proofs.LineCursor.{lines_is}
use Rattle.sgb_import.proofs.lines.Lines.new.Goals as goal

pub returns : goal.returns
returns c = lines_is c.args.text.now
