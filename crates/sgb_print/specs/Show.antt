-- How graphs are printed.
use Rattle.std.specs.Prelude.{ℕ, ℤ, List, [], ◌∷◌, ◌++◌, codes, map, Bool, true, false, if◌then◌else◌, slice_index_or}
use Rattle.std.specs.List.{flat_map, list_all, range_with_len, enumerate_from}
use Rattle.std.specs.Fmt.{decimal, signed_decimal}
use Rattle.sgb_graph.specs.declared.field.Tip.{Tip}
use Rattle.sgb_graph.specs.declared.field.Tip.TheVariants as tips
use Rattle.sgb_graph.specs.declared.field.Util.{Util}
use Rattle.sgb_graph.specs.declared.field.Util.TheVariants.{Zero, Int, Vertex, Arc, Text}
use Rattle.sgb_graph.specs.Graph.{GraphOf, ArcOf, n_of, m_of, made_of, vertex_at, arcs_of}
use Rattle.sgb_graph.specs.Edit.{entry_at}

-- NAME: N vertices, M arcs
abbrev pub made_text : List ℕ → ℕ → ℕ → List ℕ
made_text name n m = name ++ codes ": " ++ decimal n ++ codes " vertices, " ++ decimal m ++ codes " arcs\n"

abbrev pub quoted : List ℕ → List ℕ
quoted t = codes "\"" ++ t ++ codes "\""

-- a value that is not Zero
abbrev pub value_text : Util → List ℕ
value_text Zero = []
value_text (Int z) = signed_decimal z
value_text (Vertex v) = codes "V" ++ decimal v.0
value_text (Arc a) = codes "A" ++ decimal a.0
value_text (Text t) = quoted t

abbrev pub is_zero : Util → Bool
is_zero Zero = true
is_zero u = false

-- a field that is not Zero: a space, its name, and its value
abbrev pub field_text : List ℕ → Util → List ℕ
field_text name u = if is_zero u then [] else codes " " ++ name ++ codes "=" ++ value_text u

-- each name with the value at its place; Zero where there is none
abbrev pub named : List (List ℕ) → List Util → List (List ℕ × Util)
named names us = map (λ p. (p.1, slice_index_or us p.0 Zero)) (enumerate_from 0 names)

-- the fields that are not Zero, and the end of the line
abbrev pub fields_text : List (List ℕ × Util) → List ℕ
fields_text fields = flat_map (λ p. field_text p.0 p.1) fields ++ codes "\n"

abbrev pub graph_fields : List Util → List (List ℕ × Util)
graph_fields us = named (codes "uu" ∷ codes "vv" ∷ codes "ww" ∷ codes "xx" ∷ codes "yy" ∷ codes "zz" ∷ []) us

abbrev pub vertex_fields : List Util → List (List ℕ × Util)
vertex_fields us = named (codes "u" ∷ codes "v" ∷ codes "w" ∷ codes "x" ∷ codes "y" ∷ codes "z" ∷ []) us

abbrev pub arc_fields : List Util → List (List ℕ × Util)
arc_fields us = named (codes "a" ∷ codes "b" ∷ []) us

abbrev pub tip_text : Tip → List ℕ
tip_text tips.Zero = codes "0"
tip_text tips.One = codes "1"
tip_text (tips.To v) = codes "V" ++ decimal v.0

-- two spaces, the arc's number, its tip and its length
abbrev pub arc_head : ℕ → Tip → ℤ → List ℕ
arc_head k tip len = codes "  A" ++ decimal k ++ codes " " ++ tip_text tip ++ codes " " ++ signed_decimal len

-- and its fields
abbrev pub arc_line : ℕ → ArcOf → List ℕ
arc_line k e = arc_head k e.tip e.len ++ fields_text (arc_fields e.fields)

-- the arcs of these numbers
abbrev pub arcs_text : GraphOf → List ℕ → List ℕ
arcs_text g = flat_map (λ k. arc_line k (entry_at g k))

-- the vertex's number and its label
abbrev pub vertex_head : ℕ → List ℕ → List ℕ
vertex_head v label = codes "V" ++ decimal v ++ codes " " ++ quoted label

-- and its fields
abbrev pub vertex_line : GraphOf → ℕ → List ℕ
vertex_line g v = vertex_head v (vertex_at g v).label ++ fields_text (vertex_fields (vertex_at g v).fields)

-- and its arcs
abbrev pub vertex_text : GraphOf → ℕ → List ℕ
vertex_text g v = vertex_line g v ++ arcs_text g (arcs_of g v)

abbrev pub vertices_text : GraphOf → List ℕ
vertices_text g = flat_map (vertex_text g) (range_with_len 0 (n_of g))

-- a line with the graph's fields, unless all are Zero
abbrev pub graph_fields_text : List Util → List ℕ
graph_fields_text us = if list_all (λ p. is_zero p.1) (graph_fields us) then [] else codes "G" ++ fields_text (graph_fields us)

-- the id, the types and the counts
abbrev pub header_text : GraphOf → List ℕ
header_text g =
    codes "\"" ++ g.id ++ codes "\" " ++ g.types ++ codes "\n"
    ++ decimal (n_of g) ++ codes " vertices, " ++ decimal (m_of g) ++ codes " arcs, " ++ decimal (made_of g) ++ codes " numbers\n"

unfoldable pub graph_text : GraphOf → List ℕ
graph_text g = header_text g ++ (graph_fields_text g.fields ++ vertices_text g)
