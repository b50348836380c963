-- How a program that writes ends.
use Rattle.std.specs.Prelude.{◌≡◌, Result, Ok, Err}
use Rattle.sgb_print.specs.Meter.{WriterUse}
use Rattle.sgb_print.specs.declared.fault.RunFault.{RunFault}
use Rattle.sgb_print.specs.declared.fault.RunFault.TheVariants.{Read, Write, TooLong, NoRoom}

-- the fact holds, or an allocation failed and nothing was written
abbrev pub UnlessNoRoom : {W X : Type 0} → WriterUse W → WriterUse W → Result X RunFault → Type 0 → Type 0
UnlessNoRoom old new (Ok x) P = P
UnlessNoRoom old new (Err Write) P = P
UnlessNoRoom old new (Err NoRoom) P = new ≡ old
UnlessNoRoom old new (Err Read) P = ⊥
UnlessNoRoom old new (Err TooLong) P = ⊥
