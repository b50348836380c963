-- Forests, as lists of parents: a root is its own parent, and each other number has a smaller one.
use Rattle.std.specs.Prelude.{◌≤◌, ◌<◌, ℕ, zero, suc, List, length, map, slice_index}
use Rattle.std.specs.List.{range_with_len}

-- no parent is larger than its number
abbrev pub IsForest : List ℕ → Type 0
IsForest ps = (v : ℕ) → v < length ps → slice_index ps v ≤ v

-- where so many steps lead
unfoldable pub climbed : List ℕ → ℕ → ℕ → ℕ
climbed ps zero v = v
climbed ps (suc k) v = climbed ps k (slice_index ps v)

-- the root above v, which no more than v steps reach
unfoldable pub root_of : List ℕ → ℕ → ℕ
root_of ps v = climbed ps v v

-- of each number
unfoldable pub roots : List ℕ → List ℕ
roots ps = map (root_of ps) (range_with_len 0 (length ps))
