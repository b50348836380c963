use Rattle.sgb_shell.proofs.reader.LineReader.new.Goals as goal

pub returns : goal.returns
returns c held = record { reached = c.new-2.ensures held; holds = c.in_ok-line.ensures }
