-- Graphs without arcs.
use Rattle.std.specs.Prelude.{ℕ, List, [], ◌++◌, replicate, codes, decimal}
use Rattle.sgb_graph.specs.declared.field.Util.{Util}
use Rattle.sgb_graph.specs.declared.field.Util.TheVariants.{Zero}
use Rattle.sgb_graph.specs.Graph.{GraphOf, VertexOf}

-- the fields of a graph and of a vertex as they begin
abbrev pub six_zeros : List Util
six_zeros = replicate 6 Zero

-- a graph of these vertices, with no arc number given out
abbrev pub bare_graph : List ℕ → List ℕ → List VertexOf → GraphOf
bare_graph id types vertices =
    record { id = id; types = types; fields = six_zeros; vertices = vertices; entries = [] }

-- a vertex with no name, no arcs and no values
abbrev pub blank_vertex : VertexOf
blank_vertex = record { label = []; fields = six_zeros; arcs = [] }

abbrev pub new_id : ℕ → List ℕ
new_id n = codes "gb_new_graph(" ++ decimal n ++ codes ")"

-- n blank vertices, and all letters Z
unfoldable pub new_graph : ℕ → GraphOf
new_graph n = bare_graph (new_id n) (replicate 14 90) (replicate n blank_vertex)
