-- The text of a graph in each format: a line of graph6, or a head, a line for each vertex, one for each edge or arc, and a foot.
use Rattle.std.specs.Prelude.{ℕ, List, [], ◌++◌, codes, Bool, true}
use Rattle.std.specs.List.{flat_map, range_with_len, enumerate_from}
use Rattle.sgb_graph.specs.Graph.{GraphOf, n_of}
use Rattle.sgb_export.specs.declared.format.Format.{Format}
use Rattle.sgb_export.specs.declared.format.Format.TheVariants.{Dot, PlacedDot, Dimacs, Col, Edges, NamedEdges, Graph6, Graphml}
use Rattle.sgb_export.specs.declared.link.Link.{Link}
use Rattle.sgb_export.specs.Links.{links, is_directed}
use Rattle.sgb_export.specs.Dot.{dot_head, dot_vertex, placed_vertex, dot_link}
use Rattle.sgb_export.specs.Dimacs.{dimacs_head, dimacs_link, col_head, col_link}
use Rattle.sgb_export.specs.Edges.{edges_head, edges_link, named_link}
use Rattle.sgb_export.specs.Graph6.{graph6_text}
use Rattle.sgb_export.specs.Graphml.{graphml_head, graphml_vertex, graphml_link}

-- the shortest-path format of DIMACS has no edges
abbrev pub is_directed_in : Format → GraphOf → Bool
is_directed_in Dimacs g = true
is_directed_in format g = is_directed g

abbrev pub head_text : Format → Bool → GraphOf → List ℕ
head_text Dot directed g = dot_head directed g
head_text PlacedDot directed g = dot_head directed g
head_text Dimacs directed g = dimacs_head g
head_text Col directed g = col_head g
head_text Edges directed g = edges_head directed g
head_text NamedEdges directed g = edges_head directed g
head_text Graph6 directed g = []
head_text Graphml directed g = graphml_head directed g

abbrev pub vertex_text : Format → GraphOf → ℕ → List ℕ
vertex_text Dot g v = dot_vertex g v
vertex_text PlacedDot g v = placed_vertex g v
vertex_text Graphml g v = graphml_vertex g v
vertex_text format g v = []

-- link l, number k of those written
abbrev pub link_text : Format → Bool → GraphOf → ℕ → Link → List ℕ
link_text Dot directed g k l = dot_link directed l
link_text PlacedDot directed g k l = dot_link directed l
link_text Dimacs directed g k l = dimacs_link l
link_text Col directed g k l = col_link l
link_text Edges directed g k l = edges_link l
link_text NamedEdges directed g k l = named_link g l
link_text Graph6 directed g k l = []
link_text Graphml directed g k l = graphml_link k l

abbrev pub foot_text : Format → List ℕ
foot_text Dot = codes "}\n"
foot_text PlacedDot = codes "}\n"
foot_text Graphml = codes "  </graph>\n</graphml>\n"
foot_text format = []

abbrev pub vertices_text : Format → GraphOf → List ℕ
vertices_text format g = flat_map (vertex_text format g) (range_with_len 0 (n_of g))

-- the lines of links, numbered from k on
unfoldable pub links_text : Format → Bool → GraphOf → ℕ → List Link → List ℕ
links_text format directed g k ls = flat_map (λ p. link_text format directed g p.0 p.1) (enumerate_from k ls)

-- head, vertices, edges or arcs, and foot
unfoldable pub listed_text : Format → GraphOf → List ℕ
listed_text format g =
    let directed = is_directed_in format g in
    head_text format directed g ++ (vertices_text format g ++ (links_text format directed g 0 (links directed g) ++ foot_text format))

unfoldable pub export_text : Format → GraphOf → List ℕ
export_text Graph6 g = graph6_text g
export_text format g = listed_text format g
