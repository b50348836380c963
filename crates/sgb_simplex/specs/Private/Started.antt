-- How the making of a graph of points begins, and how it is refused before its arcs.
use Rattle.std.specs.Prelude.{◌≡◌, ◌⊎◌, ◌<◌, ℕ, ℤ, List, [], length, map, Bool, true, false}
use Rattle.sgb_graph.specs.declared.builder.Builder.{Builder}
use Rattle.sgb_graph.specs.declared.refusal.Refusal.{Refusal}
use Rattle.sgb_graph.specs.declared.refusal.Refusal.TheVariants.{NoRoom, TooLarge, BadSpecs}
use Rattle.sgb_graph.specs.New.{bare_graph}
use Rattle.sgb_plan.specs.Plan.{with_named}
use Rattle.sgb_simplex.specs.Bounds.{are_in_range, points_within}
use Rattle.sgb_simplex.specs.Points.{point_types, point_vertex}

-- memory is wanting, the arguments are bad, or the points are too many
abbrev pub RefusesPoints : ℤ → List ℤ → Refusal → Type 0
RefusesPoints n numbers e = (e ≡ NoRoom)
    ⊎ (((e ≡ BadSpecs) × (are_in_range n numbers ≡ false))
    ⊎ ((e ≡ TooLarge) × (are_in_range n numbers ≡ true) × (65535 < length (points_within n numbers))))

-- the points are the vertices, and there is no arc
abbrev pub started : List ℕ → Bool → List (List ℕ) → Builder
started id directed all = with_named (record { graph = bare_graph id point_types []; directed = directed }) (map point_vertex all)
