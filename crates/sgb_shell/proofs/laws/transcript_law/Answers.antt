use Rattle.sgb_shell.proofs.StandingCommands.{report_stands}
use Rattle.sgb_shell.proofs.laws.transcript_law.Goals as goal

pub returns : goal.returns
returns c = record { accepted = report_stands }
