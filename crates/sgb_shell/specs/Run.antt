-- How a run of a script ends.
use Rattle.std.specs.Prelude.{◌≡◌, ℕ, ◌+◌, ◌≤◌, ◌⊎◌, true, false, List, [], ◌∷◌, ◌++◌, length, Option, Result, Ok, Err}
use Rattle.std.specs.Io.KnownBytes.{Appends, Consumes, IsAtEnd}
use Rattle.sgb_shell.specs.declared.fault.RunEnd.{RunEnd}
use Rattle.sgb_print.specs.declared.fault.RunFault.{RunFault}
use Rattle.sgb_print.specs.declared.fault.RunFault.TheVariants.{Read, Write, TooLong, NoRoom}
use Rattle.sgb_shell.specs.Lines.{lines}
use Rattle.sgb_print.specs.Meter.{ReaderUse, WriterUse}
use Rattle.sgb_shell.specs.Transcript.{script_report, transcript, whole_transcript}

-- known bytes grow by a front of bs that goes past `first`
pub record AppendsPast (old new : Option (List ℕ)) (first bs : List ℕ) : Type 0 where
  pub more : List ℕ
  pub rest : List ℕ
  pub whole : bs ≡ first ++ more ++ rest
  pub appends : Appends old new (first ++ more)

-- What a run did that took the bytes of a script. `left` are the bytes that the reader had, and `held` those of the
-- writer. Where a write failed, all that was due before the bytes of the last read had been written: a run does not
-- read on.
abbrev pub Ends : {R W : Type 0} → List ℕ → List ℕ → Option (List ℕ) → ReaderUse R → Option (List ℕ) → WriterUse W → Result RunEnd RunFault → Type 0
Ends script no_room left reader held writer (Ok end) =
    Consumes left reader.left script × IsAtEnd reader.left × (reader.failed ≡ false) × (writer.failed ≡ false)
    × Appends held writer.held (transcript no_room script)
    × (end.lines ≡ length (lines script)) × (end.refused ≡ (script_report no_room script).refused)
Ends script no_room left reader held writer (Err Read) =
    Consumes left reader.left script × (reader.failed ≡ true) × (writer.failed ≡ false)
    × Appends held writer.held (whole_transcript no_room script)
Ends script no_room left reader held writer (Err TooLong) =
    (length script ≡ 16777216) × ((more : ℕ) × Consumes left reader.left (script ++ more ∷ [])) × (reader.failed ≡ false) × (writer.failed ≡ false)
    × Appends held writer.held (whole_transcript no_room script)
Ends script no_room left reader held writer (Err Write) =
    Consumes left reader.left script × (reader.failed ≡ false) × (writer.failed ≡ true)
    × (((before recent : List ℕ) × (script ≡ before ++ recent) × (length recent ≤ reader.last)
    × AppendsPast held writer.held (whole_transcript no_room before) (whole_transcript no_room script))
    ⊎ IsAtEnd reader.left × AppendsPast held writer.held (whole_transcript no_room script) (transcript no_room script))
Ends script no_room left reader held writer (Err NoRoom) =
    (script ≡ []) × (reader.reads ≡ 0) × Consumes left reader.left [] × (reader.failed ≡ false) × (writer.failed ≡ false) × Appends held writer.held []

-- a run takes some bytes, and no more reads than one for each of them and one to see the end
pub record Runs {R W : Type 0} (left : Option (List ℕ)) (reader : ReaderUse R) (held : Option (List ℕ)) (writer : WriterUse W) (result : Result RunEnd RunFault) : Type 0 where
  pub script : List ℕ
  pub no_room : List ℕ
  pub few : length script ≤ 16777216
  pub seldom : reader.reads ≤ length script + 1
  pub ends : Ends script no_room left reader held writer result
