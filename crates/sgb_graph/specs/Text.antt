-- Texts: at most 4,095 printable ASCII bytes, none of them a double quote or a backslash.
use Rattle.std.specs.Prelude.{◌≤◌, ℕ, List, length, Bool, ◌&&◌, not, ◌==◌, nat_le, IsTrue}
use Rattle.std.specs.List.{list_all}

abbrev pub is_text_byte : ℕ → Bool
is_text_byte c = nat_le 32 c && nat_le c 126 && not (c == 34) && not (c == 92)

pub record IsText (t : List ℕ) : Type 0 where
  pub short : length t ≤ 4095
  pub printable : IsTrue (list_all is_text_byte t)
