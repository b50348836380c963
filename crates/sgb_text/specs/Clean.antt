-- A graph in which each value that its letter does not allow is Zero.
use Rattle.std.specs.Prelude.{ℕ, ◌+◌, List, map, zip, Option, Some, None, not, count_by, sum_by, if◌then◌else◌}
use Rattle.std.specs.Option.{option_map}
use Rattle.sgb_graph.specs.declared.field.Util.{Util}
use Rattle.sgb_graph.specs.declared.field.Util.TheVariants.{Zero}
use Rattle.sgb_graph.specs.Graph.{GraphOf, VertexOf, ArcOf}
use Rattle.sgb_graph.specs.Honest.{is_allowed, vertex_letters, arc_letters, graph_letters}

abbrev pub cleaned : ℕ → Util → Util
cleaned letter u = if is_allowed letter u then u else Zero

abbrev pub clean_fields : List ℕ → List Util → List Util
clean_fields letters us = map (λ p. cleaned p.1 p.0) (zip us letters)

abbrev pub clean_vertex : List ℕ → VertexOf → VertexOf
clean_vertex types v = record v { fields = clean_fields (vertex_letters types) v.fields }

abbrev pub clean_arc : List ℕ → ArcOf → ArcOf
clean_arc types e = record e { fields = clean_fields (arc_letters types) e.fields }

unfoldable pub clean_of : GraphOf → GraphOf
clean_of g = record g {
  fields = clean_fields (graph_letters g.types) g.fields;
  vertices = map (clean_vertex g.types) g.vertices;
  entries = map (option_map (clean_arc g.types)) g.entries;
}

-- how many values their letters do not allow
abbrev pub dirt_in : List ℕ → List Util → ℕ
dirt_in letters us = count_by (λ p. not (is_allowed p.1 p.0)) (zip us letters)

abbrev pub dirt_in_entry : List ℕ → Option ArcOf → ℕ
dirt_in_entry types None = 0
dirt_in_entry types (Some e) = dirt_in (arc_letters types) e.fields

unfoldable pub dirt_of : GraphOf → ℕ
dirt_of g =
    dirt_in (graph_letters g.types) g.fields
    + sum_by (λ v. dirt_in (vertex_letters g.types) v.fields) g.vertices
    + sum_by (dirt_in_entry g.types) g.entries
