-- The names of graphs.
use Rattle.std.specs.Prelude.{ℕ, Bool, false, ◌&&◌, ◌||◌, ◌==◌, nat_le, List, [], ◌∷◌, length}
use Rattle.std.specs.List.{list_all}

abbrev pub is_letter : ℕ → Bool
is_letter c = (nat_le 65 c && nat_le c 90) || (nat_le 97 c && nat_le c 122)

-- letters, digits and _
abbrev pub is_name_byte : ℕ → Bool
is_name_byte c = is_letter c || (nat_le 48 c && nat_le c 57) || c == 95

-- a letter comes first, and there are at most 32 bytes
unfoldable pub is_name : List ℕ → Bool
is_name [] = false
is_name (c ∷ cs) = is_letter c && list_all is_name_byte cs && nat_le (length cs) 31
