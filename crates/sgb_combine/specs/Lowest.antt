-- Spokes to distinct vertices: of those to the same vertex the first, with the least of their lengths.
use Rattle.std.specs.Prelude.{ℕ, ℤ, List, [], ◌∷◌, fold, Option, Some, None, ◌==◌, if◌then◌else◌}
use Rattle.std.specs.Int.{int_min}
use Rattle.sgb_graph.specs.declared.spoke.Spoke.{Spoke}

-- the spoke, with the other's length where that is less
abbrev pub lowered : Spoke → Spoke → Spoke
lowered r s = record r { len = int_min r.len s.len }

-- a spoke more: behind the others, or lowering the one that leads to the same vertex
unfoldable pub add_or_lower : List Spoke → Spoke → List Spoke
add_or_lower [] s = s ∷ []
add_or_lower (r ∷ rs) s = if r.to == s.to then lowered r s ∷ rs else r ∷ add_or_lower rs s

unfoldable pub lowest : List Spoke → List Spoke
lowest ss = fold add_or_lower [] ss

-- the lesser of two lengths, where there are both
abbrev pub lesser : Option ℤ → Option ℤ → Option ℤ
lesser None m = m
lesser (Some k) None = Some k
lesser (Some k) (Some m) = Some (int_min k m)

-- the least length of those that lead to w
unfoldable pub least_to : List Spoke → ℕ → Option ℤ
least_to [] w = None
least_to (s ∷ ss) w = lesser (if s.to == w then Some s.len else None) (least_to ss w)
