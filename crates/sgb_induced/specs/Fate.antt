-- What becomes of each vertex of a graph: its field z says it.
use Rattle.std.specs.Prelude.{◌+◌, ℕ, ℤ, pos, negsuc, List, map, Option, Some, None, is_some, unwrap_or, Bool, slice_index_or}
use Rattle.std.specs.List.{list_all, range_with_len}
use Rattle.sgb_graph.specs.declared.field.Util.{Util}
use Rattle.sgb_graph.specs.declared.field.Util.TheVariants.{Zero, Int, Vertex, Arc, Text}
use Rattle.sgb_graph.specs.declared.field.VertexField.TheVariants.{Z}
use Rattle.sgb_graph.specs.Field.{vertex_place}
use Rattle.sgb_graph.specs.Graph.{GraphOf, n_of, vertex_at}
use Rattle.sgb_induced.specs.declared.fate.Fate.{Fate}
use Rattle.sgb_induced.specs.declared.fate.Fate.TheVariants.{Copies, Class}

-- a number that is not negative asks for so many copies, and -k puts the vertex in class k
abbrev pub fate_of_number : ℤ → Fate
fate_of_number (pos k) = Copies k
fate_of_number (negsuc k) = Class (k + 1)

-- Zero drops the vertex; what is no number says nothing
abbrev pub fate_of : Util → Option Fate
fate_of Zero = Some (Copies 0)
fate_of (Int z) = Some (fate_of_number z)
fate_of (Vertex v) = None
fate_of (Arc a) = None
fate_of (Text t) = None

-- the field z of vertex v
abbrev pub z_of : GraphOf → ℕ → Util
z_of g v = slice_index_or (vertex_at g v).fields (vertex_place Z) Zero

-- the field z says what becomes of v
abbrev pub has_fate : GraphOf → ℕ → Bool
has_fate g v = is_some (fate_of (z_of g v))

abbrev pub fate_at : GraphOf → ℕ → Fate
fate_at g v = unwrap_or (fate_of (z_of g v)) (Copies 0)

-- of each vertex, by its number
abbrev pub have_fates : GraphOf → Bool
have_fates g = list_all (has_fate g) (range_with_len 0 (n_of g))

abbrev pub fates_of : GraphOf → List Fate
fates_of g = map (fate_at g) (range_with_len 0 (n_of g))
