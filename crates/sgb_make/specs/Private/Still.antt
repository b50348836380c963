-- Parts that are multiples of the sizes, along which a step leads off the board or nowhere else.
use Rattle.std.specs.Prelude.{◌≡◌, ◌⊎◌, ◌<◌, ◌*◌, ℕ, List, get_or}
use Rattle.sgb_make.specs.declared.side.Side.{Side}

-- what a test of the parts before `at` tells of side k: its size is 1, or a multiple of it stands there
abbrev pub IsStillAt : List Side → List ℕ → ℕ → ℕ → Type 0
IsStillAt sides parts at k = (d : Side) → ((get_or sides k d).size ≡ 1) ⊎ ((k < at) × ((q : ℕ) × (get_or parts k 0 ≡ q * (get_or sides k d).size)))
