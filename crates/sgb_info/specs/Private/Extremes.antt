-- The least or greatest of the lengths that a loop has met.
use Rattle.std.specs.Prelude.{ℤ, Option, None, Some}

-- one length more
abbrev pub extended : (ℤ → ℤ → ℤ) → Option ℤ → ℤ → ℤ
extended f None z = z
extended f (Some a) z = f a z
