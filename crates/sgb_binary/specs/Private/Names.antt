-- Names that are borrowed.
use Rattle.std.specs.Prelude.{ℕ, List}
use denote.Ref.{Bor}

abbrev pub bytes_of : Bor (List ℕ) → List ℕ
bytes_of name = name.now
