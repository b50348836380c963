-- Moves among the points of a simplex.
use Rattle.std.specs.Prelude.{◌+◌, ◌-◌, ℕ, pos, List, [], length, get_or, set, map, nat_lt}
use Rattle.std.specs.List.{flat_map, filter, range_with_len, slice_index}
use Rattle.sgb_graph.specs.Builder.{Insertion, insertion}
use Rattle.sgb_simplex.specs.Points.{place_of}

-- a coordinate with one less, and with one more
abbrev pub lowered : List ℕ → ℕ → List ℕ
lowered t j = set t j (slice_index t j - 1)

abbrev pub raised : List ℕ → ℕ → List ℕ
raised t k = set t k (slice_index t k + 1)

-- the coordinates behind j that are below their bounds
abbrev pub rising : List ℕ → List ℕ → ℕ → List ℕ
rising bounds t j = filter (λ k. nat_lt (slice_index t k) (slice_index bounds k)) (range_with_len (j + 1) (length bounds - (j + 1)))

-- the coordinates before the last that are not 0
abbrev pub falling : List ℕ → List ℕ → List ℕ
falling bounds t = filter (λ j. nat_lt 0 (slice_index t j)) (range_with_len 0 (length bounds - 1))

-- the point t, which is the vertex v, is reached from those with one less at j and one more at k
abbrev pub move_from : List (List ℕ) → ℕ → List ℕ → ℕ → ℕ → Insertion
move_from all v t j k = insertion (place_of (raised (lowered t j) k) all) v (pos 1)

abbrev pub moves_from : List (List ℕ) → List ℕ → ℕ → List ℕ → ℕ → List Insertion
moves_from all bounds v t j = map (move_from all v t j) (rising bounds t j)

abbrev pub moves_to : List (List ℕ) → List ℕ → ℕ → List ℕ → List Insertion
moves_to all bounds v t = flat_map (moves_from all bounds v t) (falling bounds t)

-- to each of these points in their order
unfoldable pub moves : List (List ℕ) → List ℕ → List Insertion
moves all bounds = flat_map (λ v. moves_to all bounds v (get_or all v [])) (range_with_len 0 (length all))
