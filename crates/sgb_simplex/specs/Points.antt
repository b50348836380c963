-- The points of a simplex, as vertices.
use Rattle.std.specs.Prelude.{◌+◌, ◌==◌, ℕ, pos, List, [], ◌∷◌, length, map, codes, Bool, nat_lt, if◌then◌else◌}
use Rattle.std.specs.Cmp.Lexicographic.{pointwise}
use Rattle.std.specs.List.{flat_map, filter, sum, position_or_len, range_with_len, slice_index}
use Rattle.sgb_graph.specs.declared.field.Util.{Util}
use Rattle.sgb_graph.specs.declared.field.Util.TheVariants.{Zero, Int}
use Rattle.sgb_graph.specs.Builder.{Insertion}
use Rattle.sgb_plan.specs.Name.{dotted}
use Rattle.sgb_plan.specs.Plan.{Named, Plan}

-- the tuples whose coordinates are below these sizes, in lexicographic order
unfoldable pub tuples : List ℕ → List (List ℕ)
tuples [] = [] ∷ []
tuples (size ∷ sizes) = flat_map (λ x. map (λ t. x ∷ t) (tuples sizes)) (range_with_len 0 size)

-- the points whose coordinates have this sum and these bounds, in lexicographic order
unfoldable pub points : ℕ → List ℕ → List (List ℕ)
points total bounds = filter (λ t. sum t == total) (tuples (map (λ b. b + 1) bounds))

-- the number of a point among these
abbrev pub place_of : List ℕ → List (List ℕ) → ℕ
place_of t ts = position_or_len (pointwise ◌==◌ t) ts

-- the coordinate of this number, where there is one
abbrev pub coordinate_field : List ℕ → ℕ → Util
coordinate_field t k = if nat_lt k (length t) then Int (pos (slice_index t k)) else Zero

-- a vertex is named by its coordinates, and has the first three of them as x, y and z
abbrev pub point_vertex : List ℕ → Named
point_vertex t = record {
  label = dotted t;
  fields = Zero ∷ Zero ∷ Zero ∷ coordinate_field t 0 ∷ coordinate_field t 1 ∷ coordinate_field t 2 ∷ [];
}

abbrev pub point_types : List ℕ
point_types = codes "ZZZIIIZZZZZZZZ"

-- a graph of points is planned by its id, its points in order and its insertions
abbrev pub point_plan : List ℕ → Bool → List (List ℕ) → List Insertion → Plan
point_plan id directed all insertions = record {
  id = id;
  types = point_types;
  vertices = map point_vertex all;
  directed = directed;
  insertions = insertions;
}
