-- New vertices.
use Rattle.std.specs.Prelude.{ℕ, List, [], ◌∷◌, ◌++◌, map}
use Rattle.sgb_graph.specs.declared.field.Util.{Util}
use Rattle.sgb_graph.specs.declared.field.Util.TheVariants.{Zero, Int, Vertex, Arc, Text}
use Rattle.sgb_graph.specs.Graph.{GraphOf, VertexOf}
use Rattle.sgb_graph.specs.Edit.{stored}

-- the value names no vertex and no arc
abbrev pub NamesNothing : Util → Type 0
NamesNothing Zero = Unit {0}
NamesNothing (Int z) = Unit {0}
NamesNothing (Vertex v) = ⊥
NamesNothing (Arc a) = ⊥
NamesNothing (Text t) = Unit {0}

-- a vertex without arcs, with these values as they are stored
abbrev pub new_vertex : List ℕ → List Util → VertexOf
new_vertex label fields = record { label = label; fields = map stored fields; arcs = [] }

unfoldable pub with_vertex_last : GraphOf → VertexOf → GraphOf
with_vertex_last g x = record g { vertices = g.vertices ++ x ∷ [] }
