use Rattle.std.proofs.Common.{refl, ap}
use Rattle.sgb_shell.specs.Private.Gathering.{is_load}
use Rattle.sgb_shell.proofs.LineBytes.{long_line}
use Rattle.sgb_shell.proofs.text.begun_by.Goals as goal

pub returns-in_default : goal.returns-in_default
returns-in_default c l held = (refl, ap is_load (long_line l (c.in_default.ensures l held)))
