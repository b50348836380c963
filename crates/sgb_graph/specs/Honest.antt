-- Honest graphs: each value is one that its letter allows.
use Rattle.std.specs.Prelude.{ℕ, List, Option, Some, None, Bool, true, ◌&&◌, ◌||◌, ◌==◌, pos, take, drop, zip}
use Rattle.std.specs.List.{list_all}
use Rattle.std.specs.Ordering.{int_eq}
use Rattle.sgb_graph.specs.declared.field.Util.{Util}
use Rattle.sgb_graph.specs.declared.field.Util.TheVariants.{Zero, Int, Vertex, Arc, Text}
use Rattle.sgb_graph.specs.Graph.{GraphOf, VertexOf, ArcOf}

-- Zero everywhere; I: numbers; V: vertices, and the number 1; A: arcs, and the number 1; S: texts
abbrev pub is_allowed : ℕ → Util → Bool
is_allowed letter Zero = true
is_allowed letter (Int z) = letter == 73 || ((letter == 86 || letter == 65) && int_eq z (pos 1))
is_allowed letter (Vertex v) = letter == 86
is_allowed letter (Arc a) = letter == 65
is_allowed letter (Text t) = letter == 83

-- each value is allowed by the letter at its place
abbrev pub are_allowed : List ℕ → List Util → Bool
are_allowed letters us = list_all (λ p. is_allowed p.1 p.0) (zip us letters)

abbrev pub vertex_letters : List ℕ → List ℕ
vertex_letters types = take 6 types

abbrev pub arc_letters : List ℕ → List ℕ
arc_letters types = take 2 (drop 6 types)

abbrev pub graph_letters : List ℕ → List ℕ
graph_letters types = drop 8 types

abbrev pub is_honest_vertex : List ℕ → VertexOf → Bool
is_honest_vertex types v = are_allowed (vertex_letters types) v.fields

abbrev pub is_honest_entry : List ℕ → Option ArcOf → Bool
is_honest_entry types None = true
is_honest_entry types (Some e) = are_allowed (arc_letters types) e.fields

abbrev pub is_honest : GraphOf → Bool
is_honest g =
    are_allowed (graph_letters g.types) g.fields
    && list_all (is_honest_vertex g.types) g.vertices
    && list_all (is_honest_entry g.types) g.entries
