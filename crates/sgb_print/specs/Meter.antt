-- Readers and writers that remember failures.
use Rattle.std.specs.Prelude.{ℕ, Bool, false, List, Option}

-- a reader, the bytes that it has left where these are known, the number of its reads, how many bytes the last one gave, and whether one failed
pub record ReaderUse (R : Type 0) : Type 0 where
  pub inner : R
  pub left : Option (List ℕ)
  pub reads : ℕ
  pub last : ℕ
  pub failed : Bool

-- a reader before any read
abbrev pub fresh_reader : {R : Type 0} → (R → Option (List ℕ)) → R → ReaderUse R
fresh_reader remaining r = record { inner = r; left = remaining r; reads = 0; last = 0; failed = false }

-- a writer, the bytes that it holds where these are known, and whether a write or a flush failed
pub record WriterUse (W : Type 0) : Type 0 where
  pub inner : W
  pub held : Option (List ℕ)
  pub failed : Bool

-- a writer before any write
abbrev pub fresh_writer : {W : Type 0} → (W → Option (List ℕ)) → W → WriterUse W
fresh_writer contents w = record { inner = w; held = contents w; failed = false }
