-- Rides: the positions that a piece comes to by steps along one vector.
use Rattle.std.specs.Prelude.{◌≡◌, ◌+ℤ◌, ◌*ℤ◌, ◌==◌, ℕ, ℤ, pos, unsigned_abs, int_le, int_lt, nat_eq, List, [], ◌∷◌, length, map, Option, Some, None, Bool, true, ◌&&◌, All, if◌then◌else◌}
use Rattle.std.specs.Cmp.Lexicographic.{pointwise}
use Rattle.std.specs.Int.{int_rem_euclid}
use Rattle.std.specs.List.{flat_map, range_with_len, position_or_len}
use Rattle.std.specs.Option.{option_map}
use Rattle.sgb_graph.specs.Builder.{Insertion, insertion}
use Rattle.sgb_make.specs.declared.side.Side.{Side}
use Rattle.sgb_make.specs.Choice.{choices}

-- the coordinates along a side, and the positions of a board in lexicographic order
abbrev pub along : Side → List ℕ
along a = range_with_len 0 a.size

abbrev pub positions : List Side → List (List ℕ)
positions sides = choices (map along sides)

-- the number of a position: its place among all
abbrev pub place_of : List Side → List ℕ → ℕ
place_of sides p = position_or_len (pointwise nat_eq p) (positions sides)

-- a coordinate moved by z: reduced modulo the size where the ends are joined, and else only within the size
abbrev pub moved : Side → ℕ → ℤ → Option ℕ
moved a x z =
    let y : ℤ = pos x +ℤ z in
    if a.wraps then Some (unsigned_abs (int_rem_euclid y (pos a.size)))
    else (if int_le (pos 0) y && int_lt y (pos a.size) then Some (unsigned_abs y) else None)

abbrev pub with_first : Option ℕ → Option (List ℕ) → Option (List ℕ)
with_first (Some x) (Some p) = Some (x ∷ p)
with_first _ _ = None

-- p moved by l times the vector v, where that is on the board
unfoldable pub stop : List Side → List ℤ → List ℕ → ℕ → Option (List ℕ)
stop [] v p l = Some []
stop (a ∷ sides) (z ∷ v) (x ∷ p) l = with_first (moved a x (pos l *ℤ z)) (stop sides v p l)
stop (a ∷ sides) _ _ l = None

-- a rider ends its ride where it would come back to where it began
abbrev pub unless_back : Bool → ℕ → Option ℕ → Option ℕ
unless_back rides from (Some to) = if rides && (to == from) then None else Some to
unless_back rides from None = None

abbrev pub stop_number : List Side → List ℤ → Bool → List ℕ → ℕ → Option ℕ
stop_number sides v rides p l = unless_back rides (place_of sides p) (option_map (place_of sides) (stop sides v p l))

-- an insertion for each step, of the lengths of these steps, until the first that there is not
unfoldable pub ride_on : ℕ → ℕ → Option ℕ → List Insertion → List Insertion
ride_on from l (Some to) later = insertion from to (pos l) ∷ later
ride_on from l None later = []

unfoldable pub ride : ℕ → (ℕ → Option ℕ) → List ℕ → List Insertion
ride from stops [] = []
ride from stops (l ∷ ls) = ride_on from l (stops l) (ride from stops ls)

-- a rider steps on; so many steps as there are positions are enough, by `ride_law`. Any other piece makes one step
abbrev pub steps_of : Bool → ℕ → List ℕ
steps_of rides n = range_with_len 1 (if rides then n else 1)

-- the rides along the vector, from each position in order
unfoldable pub rides_along : List Side → Bool → List ℤ → List Insertion
rides_along sides rides v =
    flat_map (λ p. ride (place_of sides p) (stop_number sides v rides p) (steps_of rides (length (positions sides)))) (positions sides)

-- a ride ends, since the board is finite: after as many steps as there are positions a rider is off the board, or was
-- back where it began
abbrev pub RidesEnd : Type 0
RidesEnd =
    (sides : List Side) (v : List ℤ) → All (λ p. stop_number sides v true p (length (positions sides)) ≡ None) (positions sides)
