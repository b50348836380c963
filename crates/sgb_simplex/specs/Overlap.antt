-- Pairs of points by how much they have in common.
use Rattle.std.specs.Prelude.{◌+◌, ◌/◌, ◌%◌, ◌^◌, ◌==◌, ◌&&◌, ℕ, pos, List, [], length, get_or, map, min, Bool, nat_lt}
use Rattle.std.specs.List.{flat_map, filter, range_with_len, sum, zip}
use Rattle.sgb_graph.specs.Builder.{Insertion, insertion}

-- the sum of the smaller coordinates
abbrev pub overlap : List ℕ → List ℕ → ℕ
overlap s t = sum (map (λ p. min p.0 p.1) (zip s t))

-- the size is below 64, and its bit is set
abbrev pub has_size : ℕ → ℕ → Bool
has_size bits size = nat_lt size 64 && ((bits / 2 ^ size) % 2 == 1)

-- the overlap of these points has such a size
abbrev pub is_partner : List (List ℕ) → ℕ → ℕ → ℕ → Bool
is_partner all bits v u = has_size bits (overlap (get_or all u []) (get_or all v []))

-- the points up to v that do so with it
abbrev pub partners : List (List ℕ) → ℕ → ℕ → List ℕ
partners all bits v = filter (is_partner all bits v) (range_with_len 0 (v + 1))

abbrev pub pairs_to : List (List ℕ) → ℕ → ℕ → List Insertion
pairs_to all bits v = map (λ u. insertion u v (pos 1)) (partners all bits v)

-- to each of these points in their order
unfoldable pub pairs : List (List ℕ) → ℕ → List Insertion
pairs all bits = flat_map (pairs_to all bits) (range_with_len 0 (length all))
