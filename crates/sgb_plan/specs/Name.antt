-- Names that are numbers.
use Rattle.std.specs.Prelude.{ℕ, List, map}
use Rattle.std.specs.List.{join_with_byte}
use Rattle.std.specs.Fmt.{decimal}

-- the numbers in decimal, joined by dots
abbrev pub dotted : List ℕ → List ℕ
dotted parts = join_with_byte 46 (map decimal parts)
