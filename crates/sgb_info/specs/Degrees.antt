-- Degrees of vertices, and lengths of arcs.
use Rattle.std.specs.Prelude.{ℕ, ℤ, List, map, length, Option, None, Some, Bool, false, count_by}
use Rattle.std.specs.List.{filter_map, range_with_len}
use Rattle.std.specs.Option.{option_map}
use Rattle.sgb_graph.specs.Graph.{GraphOf, ArcOf, n_of, arcs_of}
use Rattle.sgb_graph.specs.Paired.{is_vertex}

-- how many arcs leave v, and each vertex
abbrev pub out_degree : GraphOf → ℕ → ℕ
out_degree g v = length (arcs_of g v)

unfoldable pub out_degrees : GraphOf → List ℕ
out_degrees g = map (out_degree g) (range_with_len 0 (n_of g))

-- an arc that leads to v; a hole does not
abbrev pub leads_to : ℕ → Option ArcOf → Bool
leads_to v None = false
leads_to v (Some e) = is_vertex v e.tip

-- how many arcs lead to v, and to each vertex
abbrev pub in_degree : GraphOf → ℕ → ℕ
in_degree g v = count_by (leads_to v) g.entries

unfoldable pub in_degrees : GraphOf → List ℕ
in_degrees g = map (in_degree g) (range_with_len 0 (n_of g))

-- the lengths of the arcs
unfoldable pub lengths : GraphOf → List ℤ
lengths g = filter_map (option_map (λ e. e.len)) g.entries
