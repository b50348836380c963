-- What stays true while a file is read.
use Rattle.std.proofs.Common.{◌≡◌, ◌≤◌, ◌+◌, ℕ, false, List, [], ◌∷◌, length, arith, refl}
use Rattle.std.specs.Io.KnownBytes.{Consumes}
use Rattle.sgb_print.specs.Meter.{ReaderUse}

-- the bytes so far are taken, and so many more may be
pub record Reading {R : Type 0} (limit : ℕ) (old new : ReaderUse R) (file : List ℕ) (room : ℕ) : Type 0 where
  pub taken : Consumes old.left new.left file
  pub rest : length file + room ≡ limit
  pub seldom : new.reads ≤ length file
  pub reader : new.failed ≡ false

pub one_byte : (bytes : List ℕ) → length bytes ≡ 1 → (more : ℕ) × (bytes ≡ more ∷ [])
one_byte [] e = absurd (omega arith)
one_byte (x ∷ []) e = (x, refl)
one_byte (x ∷ y ∷ ys) e = absurd (omega arith)
