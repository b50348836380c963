-- Graphs in GraphML.
use Rattle.std.specs.Prelude.{◌==◌, ℕ, List, [], ◌∷◌, ◌++◌, codes, Bool, if◌then◌else◌}
use Rattle.std.specs.List.{flat_map}
use Rattle.std.specs.Fmt.{decimal, signed_decimal}
use Rattle.sgb_graph.specs.Graph.{GraphOf, label_of}
use Rattle.sgb_export.specs.declared.link.Link.{Link}

-- &, < and > as entities
abbrev pub entity : ℕ → List ℕ
entity c =
    if c == 38 then codes "&amp;"
    else (if c == 60 then codes "&lt;"
    else (if c == 62 then codes "&gt;" else c ∷ []))

unfoldable pub escaped : List ℕ → List ℕ
escaped = flat_map entity

abbrev pub edge_default : Bool → List ℕ
edge_default directed = if directed then codes "directed" else codes "undirected"

-- the head of the document, the keys, the head of the graph, and its id
abbrev pub graphml_head : Bool → GraphOf → List ℕ
graphml_head directed g =
    codes "<?xml version=\"1.0\" encoding=\"UTF-8\"?>\n"
    ++ codes "<graphml xmlns=\"http://graphml.graphdrawing.org/xmlns\">\n"
    ++ codes "  <key id=\"id\" for=\"graph\" attr.name=\"id\" attr.type=\"string\"/>\n"
    ++ codes "  <key id=\"name\" for=\"node\" attr.name=\"name\" attr.type=\"string\"/>\n"
    ++ codes "  <key id=\"len\" for=\"edge\" attr.name=\"len\" attr.type=\"long\"/>\n"
    ++ codes "  <graph id=\"G\" edgedefault=\"" ++ edge_default directed ++ codes "\">\n    <data key=\"id\">"
    ++ (escaped g.id ++ codes "</data>\n")

abbrev pub graphml_vertex : GraphOf → ℕ → List ℕ
graphml_vertex g v =
    codes "    <node id=\"v" ++ decimal v ++ codes "\"><data key=\"name\">" ++ (escaped (label_of g v) ++ codes "</data></node>\n")

-- edges are numbered from 0
abbrev pub graphml_link : ℕ → Link → List ℕ
graphml_link k l =
    codes "    <edge id=\"e" ++ decimal k ++ codes "\" source=\"v" ++ decimal l.from ++ codes "\" target=\"v" ++ decimal l.to
    ++ codes "\"><data key=\"len\">" ++ signed_decimal l.len ++ codes "</data></edge>\n"
