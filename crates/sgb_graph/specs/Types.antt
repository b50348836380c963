-- The letters of a graph's utility fields.
use Rattle.std.specs.Prelude.{◌≡◌, ℕ, List, length, Bool, ◌||◌, ◌==◌, IsTrue}
use Rattle.std.specs.List.{list_all}

-- one of Z, I, V, S and A
abbrev pub is_letter : ℕ → Bool
is_letter c = c == 90 || c == 73 || c == 86 || c == 83 || c == 65

pub record IsTypes (ts : List ℕ) : Type 0 where
  pub fourteen : length ts ≡ 14
  pub letters : IsTrue (list_all is_letter ts)
