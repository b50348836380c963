-- How the reading of a file ends.
use Rattle.std.specs.Prelude.{◌≡◌, ℕ, ◌+◌, ◌≤◌, true, false, List, [], ◌∷◌, ◌++◌, length, Result, Ok, Err}
use Rattle.std.specs.Io.KnownBytes.{Consumes, IsAtEnd}
use Rattle.std.specs.declared.alloc.Global.{Global}
use Rattle.std.specs.declared.vec.Vec.{Vec}
use Rattle.sgb_print.specs.Meter.{ReaderUse}
use Rattle.sgb_print.specs.declared.fault.RunFault.{RunFault}
use Rattle.sgb_print.specs.declared.fault.RunFault.TheVariants.{Read, Write, TooLong, NoRoom}

-- what a reader does that gives the bytes of a file
abbrev pub FileEnds : {R : Type 0} → ℕ → List ℕ → ReaderUse R → ReaderUse R → Result (Vec ℕ Global) RunFault → Type 0
FileEnds limit file old new (Ok bytes) = (bytes.items ≡ file) × Consumes old.left new.left file × IsAtEnd new.left × (new.failed ≡ false)
FileEnds limit file old new (Err Read) = Consumes old.left new.left file × (new.failed ≡ true)
FileEnds limit file old new (Err TooLong) = (length file ≡ limit) × ((more : ℕ) × Consumes old.left new.left (file ++ more ∷ [])) × (new.failed ≡ false)
FileEnds limit file old new (Err NoRoom) = Consumes old.left new.left file × (new.failed ≡ false)
FileEnds limit file old new (Err Write) = ⊥

-- some bytes are read, by no more reads than one for each of them and one to see the end
pub record ReadsFile {R : Type 0} (limit : ℕ) (old new : ReaderUse R) (result : Result (Vec ℕ Global) RunFault) : Type 0 where
  pub file : List ℕ
  pub few : length file ≤ limit
  pub seldom : new.reads ≤ length file + 1
  pub ends : FileEnds limit file old new result
