-- What the reading of a script came to.
use Rattle.std.specs.Prelude.{◌≡◌, ℕ, ◌+◌, ◌≤◌, true, false, List, [], ◌∷◌, ◌++◌, length, take, Option, Result, Ok, Err}
use Rattle.std.specs.Io.KnownBytes.{Consumes, IsAtEnd, Keeps}
use Rattle.sgb_print.specs.Meter.{ReaderUse, WriterUse}
use Rattle.sgb_print.specs.declared.fault.RunFault.{RunFault}
use Rattle.sgb_print.specs.declared.fault.RunFault.TheVariants.{Read, Write, TooLong, NoRoom}
use Rattle.sgb_shell.specs.Private.Reaching.{ReaderView, Progress, Stopped}
use Rattle.sgb_shell.specs.Lines.{whole_lines}

-- what one read did, behind a flush
abbrev pub ReadsOn : {R W : Type 0} → ReaderUse R → ReaderUse R → WriterUse W → WriterUse W → ℕ → List ℕ → Result ℕ RunFault → Type 0
ReadsOn reader reader' writer writer' most bytes (Ok n) =
    (n ≤ most) × (n ≤ length bytes) × Consumes reader.left reader'.left (take n bytes) × (n ≡ 0 → IsAtEnd reader'.left)
    × (reader'.failed ≡ false) × (reader'.reads ≡ reader.reads + 1) × Keeps writer.held writer'.held × (writer'.failed ≡ false) × (reader'.last ≡ n)
ReadsOn reader reader' writer writer' most bytes (Err Read) =
    Keeps reader.left reader'.left × (reader'.failed ≡ true) × (reader'.reads ≡ reader.reads + 1) × Keeps writer.held writer'.held × (writer'.failed ≡ false)
ReadsOn reader reader' writer writer' most bytes (Err Write) =
    Keeps reader.left reader'.left × (reader'.failed ≡ false) × (reader'.reads ≡ reader.reads) × Keeps writer.held writer'.held × (writer'.failed ≡ true)
ReadsOn reader reader' writer writer' most bytes (Err TooLong) = ⊥
ReadsOn reader reader' writer writer' most bytes (Err NoRoom) = ⊥

-- how that ended before the last line, which no newline ends, is answered
abbrev pub ScriptEnds : {R W X : Type 0} → List ℕ → Option (List ℕ) → ReaderUse R → Option (List ℕ) → WriterUse W → ReaderView → Result X RunFault → Type 0
ScriptEnds script left reader held writer lines (Ok x) =
    Consumes left reader.left script × IsAtEnd reader.left × (reader.failed ≡ false) × (writer.failed ≡ false)
    × Progress held writer.held script lines
ScriptEnds script left reader held writer lines (Err Read) =
    Consumes left reader.left script × (reader.failed ≡ true) × (writer.failed ≡ false)
    × Progress held writer.held script lines
ScriptEnds script left reader held writer lines (Err TooLong) =
    (length script ≡ 16777216) × ((more : ℕ) × Consumes left reader.left (script ++ more ∷ [])) × (reader.failed ≡ false) × (writer.failed ≡ false)
    × Progress held writer.held script lines
ScriptEnds script left reader held writer lines (Err Write) =
    Consumes left reader.left script × (reader.failed ≡ false) × (writer.failed ≡ true)
    × ((before recent : List ℕ) × (script ≡ before ++ recent) × (length recent ≤ reader.last) × Stopped held writer.held (whole_lines before) (whole_lines script))
ScriptEnds script left reader held writer lines (Err NoRoom) = ⊥

pub record TakesScript {R W X : Type 0} (left : Option (List ℕ)) (reader : ReaderUse R) (held : Option (List ℕ)) (writer : WriterUse W) (lines : ReaderView) (result : Result X RunFault) : Type 0 where
  pub script : List ℕ
  pub few : length script ≤ 16777216
  pub seldom : reader.reads ≤ length script + 1
  pub ends : ScriptEnds script left reader held writer lines result
