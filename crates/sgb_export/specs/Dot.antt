-- Graphs in the language of Graphviz.
use Rattle.std.specs.Prelude.{ℕ, ℤ, pos, ◌*ℤ◌, List, ◌++◌, codes, Bool, true, false, ◌&&◌, if◌then◌else◌}
use Rattle.std.specs.List.{list_all, range_with_len}
use Rattle.std.specs.Fmt.{decimal, signed_decimal}
use Rattle.sgb_graph.specs.declared.field.Util.{Util}
use Rattle.sgb_graph.specs.declared.field.Util.TheVariants.{Zero, Int, Vertex, Arc, Text}
use Rattle.sgb_graph.specs.declared.field.Place.TheVariants as places
use Rattle.sgb_graph.specs.declared.field.VertexField.TheVariants.{X, Y}
use Rattle.sgb_graph.specs.Graph.{GraphOf, n_of, label_of}
use Rattle.sgb_graph.specs.Edit.{util_at}
use Rattle.sgb_print.specs.Show.{quoted}
use Rattle.sgb_export.specs.declared.link.Link.{Link}

abbrev pub kind : Bool → List ℕ
kind directed = if directed then codes "digraph" else codes "graph"

abbrev pub arrow : Bool → List ℕ
arrow directed = if directed then codes " -> " else codes " -- "

-- graph "ID" {
abbrev pub dot_head : Bool → GraphOf → List ℕ
dot_head directed g = kind directed ++ codes " " ++ quoted g.id ++ codes " {\n"

--   0 [label="NAME"
abbrev pub label_text : GraphOf → ℕ → List ℕ
label_text g v = codes "  " ++ decimal v ++ codes " [label=" ++ quoted (label_of g v)

--   0 [label="NAME"];
abbrev pub dot_vertex : GraphOf → ℕ → List ℕ
dot_vertex g v = label_text g v ++ codes "];\n"

-- the fields that hold the position of a vertex
abbrev pub x_of : GraphOf → ℕ → Util
x_of g v = util_at g (places.Vertex (record { 0 = v }) X)

abbrev pub y_of : GraphOf → ℕ → Util
y_of g v = util_at g (places.Vertex (record { 0 = v }) Y)

-- a number, or Zero, which counts as 0
abbrev pub is_coordinate : Util → Bool
is_coordinate Zero = true
is_coordinate (Int z) = true
is_coordinate (Vertex v) = false
is_coordinate (Arc a) = false
is_coordinate (Text t) = false

abbrev pub coordinate : Util → ℤ
coordinate Zero = pos 0
coordinate (Int z) = z
coordinate (Vertex v) = pos 0
coordinate (Arc a) = pos 0
coordinate (Text t) = pos 0

-- the vertex has a position, and each has
abbrev pub is_placed : GraphOf → ℕ → Bool
is_placed g v = is_coordinate (x_of g v) && is_coordinate (y_of g v)

abbrev pub are_placed : GraphOf → Bool
are_placed g = list_all (is_placed g) (range_with_len 0 (n_of g))

-- a coordinate in points, of which a unit has 72
abbrev pub points : Util → List ℕ
points u = signed_decimal (pos 72 *ℤ coordinate u)

-- , pos="X,Y"];
abbrev pub position_text : Util → Util → List ℕ
position_text x y = codes ", pos=\"" ++ points x ++ codes "," ++ points y ++ codes "\"];\n"

--   0 [label="NAME", pos="X,Y"];
abbrev pub placed_vertex : GraphOf → ℕ → List ℕ
placed_vertex g v = label_text g v ++ position_text (x_of g v) (y_of g v)

--   0 -- 1 [label="LEN"];
abbrev pub dot_link : Bool → Link → List ℕ
dot_link directed l =
    codes "  " ++ decimal l.from ++ arrow directed ++ decimal l.to ++ codes " [label=" ++ quoted (signed_decimal l.len) ++ codes "];\n"
