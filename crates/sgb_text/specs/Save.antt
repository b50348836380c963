-- The one text of a graph.
use Rattle.std.specs.Prelude.{◌≡◌, ℕ, pos, ◌==◌, List, [], ◌∷◌, ◌++◌, zip, codes, Option, Some, None, if◌then◌else◌}
use Rattle.std.specs.List.{flat_map, range_with_len}
use Rattle.std.specs.Fmt.{decimal, signed_decimal}
use Rattle.sgb_graph.specs.declared.field.ArcNo.{ArcNo}
use Rattle.sgb_graph.specs.declared.field.Tip.{Tip}
use Rattle.sgb_graph.specs.declared.field.Tip.TheVariants as tips
use Rattle.sgb_graph.specs.declared.field.Util.{Util}
use Rattle.sgb_graph.specs.declared.field.Util.TheVariants.{Zero, Int, Vertex, Arc, Text}
use Rattle.sgb_graph.specs.Graph.{GraphOf, VertexOf, ArcOf, n_of, m_of, made_of, arcs_of, arc_at}
use Rattle.sgb_graph.specs.Honest.{vertex_letters, arc_letters, graph_letters}
use Rattle.sgb_graph.specs.Edit.{owner_of}
use Rattle.sgb_graph.specs.Read.{first_of}
use Rattle.sgb_graph.specs.declared.refusal.Refusal.{Refusal}
use Rattle.sgb_graph.specs.declared.refusal.Refusal.TheVariants.{NoRoom}
use Rattle.sgb_grammar.specs.Check.{check_of}
use Rattle.sgb_text.specs.declared.restoring.CheckRule.{CheckRule}
use Rattle.sgb_text.specs.Restore.{Accepted, Refused}
use Rattle.sgb_text.specs.Layout.{laid}

-- ---- items

abbrev pub quoted : List ℕ → List ℕ
quoted t = 34 ∷ (t ++ 34 ∷ [])

-- an arc's number, or 0
abbrev pub link_text : Option ArcNo → List ℕ
link_text None = codes "0"
link_text (Some k) = 65 ∷ decimal k.0

abbrev pub tip_text : Tip → List ℕ
tip_text tips.Zero = codes "0"
tip_text tips.One = codes "1"
tip_text (tips.To v) = 86 ∷ decimal v.0

-- a value under its letter: Zero is the empty text under S, and else 0
abbrev pub value_text : ℕ → Util → List ℕ
value_text letter Zero = if letter == 83 then quoted [] else codes "0"
value_text letter (Int z) = signed_decimal z
value_text letter (Vertex v) = 86 ∷ decimal v.0
value_text letter (Arc a) = 65 ∷ decimal a.0
value_text letter (Text t) = quoted t

-- a field is an item where its letter is not Z
abbrev pub field_item : ℕ → Util → List (List ℕ)
field_item letter u = if letter == 90 then [] else value_text letter u ∷ []

abbrev pub field_items : List ℕ → List Util → List (List ℕ)
field_items letters us = flat_map (λ p. field_item p.1 p.0) (zip us letters)

-- ---- records

-- the id, the number of vertices, that of live arcs, and the fields
abbrev pub own_items : GraphOf → List (List ℕ)
own_items g = quoted g.id ∷ decimal (n_of g) ∷ decimal (m_of g) ∷ field_items (graph_letters g.types) g.fields

-- the name, the first arc, and the fields
abbrev pub vertex_items : List ℕ → VertexOf → List (List ℕ)
vertex_items types v = quoted v.label ∷ link_text (first_of v.arcs) ∷ field_items (vertex_letters types) v.fields

-- the tip, the arc that follows, the length, and the fields
abbrev pub arc_items : List ℕ → Option ArcNo → ArcOf → List (List ℕ)
arc_items types link e = tip_text e.tip ∷ link_text link ∷ signed_decimal e.len ∷ field_items (arc_letters types) e.fields

-- what is written of a hole
abbrev pub hole : ArcOf
hole = record { tip = tips.Zero; len = pos 0; fields = Zero ∷ Zero ∷ [] }

abbrev pub entry_items : List ℕ → Option ArcNo → Option ArcOf → List (List ℕ)
entry_items types link None = arc_items types None hole
entry_items types link (Some e) = arc_items types link e

-- what follows the number in a list
unfoldable pub following : ℕ → List ℕ → Option ArcNo
following k [] = None
following k (j ∷ js) = if j == k then first_of js else following k js

-- the arc that follows in the list of the vertex that has it
abbrev pub next_link : GraphOf → ℕ → Option ArcNo
next_link g k = following k (arcs_of g (owner_of g k))

unfoldable pub vertex_record : List ℕ → VertexOf → List ℕ
vertex_record types v = laid 0 (vertex_items types v)

unfoldable pub arc_record : GraphOf → ℕ → List ℕ
arc_record g k = laid 0 (entry_items g.types (next_link g k) (arc_at g k))

-- ---- the text

-- the letters, how many vertices there are, and how many arc numbers
abbrev pub header_of : GraphOf → List ℕ
header_of g =
    codes "* GraphBase graph (util_types " ++ (g.types ++ (codes "," ++ (decimal (n_of g) ++ (codes "V," ++ (decimal (made_of g) ++ codes "A)")))))

-- the records, which the check number is of
unfoldable pub body_of : GraphOf → List ℕ
body_of g =
    laid 0 (own_items g)
    ++ ((codes "* Vertices" ++ 10 ∷ [])
    ++ (flat_map (vertex_record g.types) g.vertices
    ++ ((codes "* Arcs" ++ 10 ∷ [])
    ++ flat_map (arc_record g) (range_with_len 0 (made_of g)))))

abbrev pub check_line : ℕ → List ℕ
check_line c = codes "* Checksum " ++ (decimal c ++ 10 ∷ [])

unfoldable pub text_of : GraphOf → List ℕ
text_of g = header_of g ++ (10 ∷ (body_of g ++ check_line (check_of (body_of g))))

-- ---- the law

-- the graph's text is read as the graph, and as nothing else, and nothing but want of memory refuses it
pub record IsReadBack (rule : CheckRule) (g : GraphOf) : Type 0 where
  pub accepted : Accepted rule (text_of g) g
  pub one : (h : GraphOf) → Accepted rule (text_of g) h → h ≡ g
  pub room : (e : Refusal) → Refused rule (text_of g) e → e ≡ NoRoom
