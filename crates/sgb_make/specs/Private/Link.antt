-- Where one step leads from each position, as a table of links.
use Rattle.std.specs.Prelude.{◌+◌, ◌-◌, ◌*◌, ◌==◌, ℕ, zero, suc, ℤ, pos, neg_ℤ, List, [], ◌∷◌, length, map, get_or, replicate, Option, Some, None, Bool, if◌then◌else◌}
use Rattle.std.specs.List.{flat_map, range_with_len}
use Rattle.sgb_graph.specs.Builder.{Insertion}
use Rattle.sgb_make.specs.declared.side.Side.{Side}
use Rattle.sgb_make.specs.declared.side.Step.{Step}
use Rattle.sgb_make.specs.Ride.{along, moved, unless_back, ride_on, steps_of}

-- a step as a part of a vector
abbrev pub part_of : Step → ℤ
part_of s = if s.back then neg_ℤ (pos s.by) else pos s.by

-- a link is 0 for none, and else the number and 1
abbrev pub link_of : Option ℕ → ℕ
link_of None = 0
link_of (Some k) = suc k

abbrev pub number_of : ℕ → Option ℕ
number_of zero = None
number_of (suc k) = Some k

-- a link to a position so far on
abbrev pub shifted : ℕ → ℕ → ℕ
shifted base t = if t == 0 then 0 else base + t

-- the links of the positions whose first coordinate moves to this one, from those of the board without its first side
unfoldable pub row_of : Option ℕ → List ℕ → List ℕ
row_of None ts = replicate (length ts) 0
row_of (Some y) ts = map (shifted (y * length ts)) ts

unfoldable pub rows_of : Side → ℤ → List ℕ → List ℕ
rows_of a z ts = flat_map (λ x. row_of (moved a x z) ts) (along a)

-- for each position in order, the link to the position that the vector leads to
unfoldable pub links : List Side → List ℤ → List ℕ
links [] v = 1 ∷ []
links (a ∷ sides) [] = []
links (a ∷ sides) (z ∷ v) = rows_of a z (links sides v)

-- a ride by the links
unfoldable pub trip : List ℕ → Bool → ℕ → ℕ → List ℕ → List Insertion
trip table rides from at [] = []
trip table rides from at (l ∷ ls) =
    ride_on from l (unless_back rides from (number_of (get_or table at 0))) (trip table rides from (get_or table at 0 - 1) ls)

abbrev pub trip_from : List ℕ → Bool → ℕ → List Insertion
trip_from table rides from = trip table rides from from (steps_of rides (length table))

unfoldable pub trips : List ℕ → Bool → List Insertion
trips table rides = flat_map (trip_from table rides) (range_with_len 0 (length table))
