-- A program's exit status.
use Rattle.std.specs.Prelude.{ℕ, Bool, true, false, Result, Ok, Err}
use Rattle.sgb_print.specs.declared.fault.RunFault.{RunFault}

abbrev pub status_of : Result Bool RunFault → ℕ
status_of (Ok true) = 0
status_of (Ok false) = 1
status_of (Err fault) = 2
