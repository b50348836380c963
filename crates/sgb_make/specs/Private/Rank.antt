-- Positions as numbers.
use Rattle.std.specs.Prelude.{◌+◌, ◌*◌, ◌<◌, ◌≤◌, ℕ, List, [], ◌∷◌}
use Rattle.sgb_make.specs.declared.side.Side.{Side}

-- how many positions there are
unfoldable pub cells : List Side → ℕ
cells [] = 1
cells (a ∷ sides) = a.size * cells sides

-- the number of a position
unfoldable pub rank : List Side → List ℕ → ℕ
rank [] p = 0
rank (a ∷ sides) [] = 0
rank (a ∷ sides) (x ∷ p) = x * cells sides + rank sides p

-- a position of the board
abbrev pub IsOn : List Side → List ℕ → Type 0
IsOn [] [] = Unit {0}
IsOn [] (x ∷ p) = ⊥
IsOn (a ∷ sides) [] = ⊥
IsOn (a ∷ sides) (x ∷ p) = (x < a.size) × IsOn sides p

-- a board of at most 65,535 positions, and so are its last sides alone
abbrev pub IsSmall : List Side → Type 0
IsSmall [] = Unit {0}
IsSmall (a ∷ sides) = (0 < a.size) × (cells (a ∷ sides) ≤ 65535) × IsSmall sides

-- the product of the sizes
unfoldable pub volume : List ℕ → ℕ
volume [] = 1
volume (n ∷ sizes) = n * volume sizes
