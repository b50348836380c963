-- The records of a saved text: the graph's own, a vertex's and an arc's.
use Rattle.std.specs.Prelude.{ℕ, List, [], ◌∷◌, Option, Some, replicate}
use Rattle.sgb_graph.specs.declared.parts.VertexPart.{VertexPart}
use Rattle.sgb_graph.specs.declared.parts.ArcPart.{ArcPart}
use Rattle.sgb_grammar.specs.declared.records.Own.{Own}
use Rattle.sgb_grammar.specs.Reading.{◌>>=◌, after, each_at}
use Rattle.sgb_grammar.specs.Number.{count_at, number_at}
use Rattle.sgb_grammar.specs.String.{text_at}
use Rattle.sgb_grammar.specs.Field.{comma_at, link_at, tip_at, fields_at}

abbrev pub newline_at : List ℕ → Option (List ℕ)
newline_at bs = after (10 ∷ []) bs

-- the graph's id, the number n, the number m, and the graph's fields
unfoldable pub own_at : List ℕ → List ℕ → Option (Own × List ℕ)
own_at letters bs = do
  id ← text_at 160 bs
  rest ← comma_at id.1
  n ← count_at rest
  rest' ← comma_at n.1
  m ← number_at rest'
  us ← fields_at letters m.1
  end ← newline_at us.1
  Some (record { id = id.0; n = n.0; fields = us.0 }, end)

-- a vertex's name, its first arc, and its fields
unfoldable pub vertex_at : List ℕ → List ℕ → Option (VertexPart × List ℕ)
vertex_at letters bs = do
  name ← text_at 4095 bs
  rest ← comma_at name.1
  link ← link_at rest
  us ← fields_at letters link.1
  end ← newline_at us.1
  Some (record { label = name.0; fields = us.0; first = link.0 }, end)

-- an arc's tip, the arc that follows, the length, and the fields
unfoldable pub arc_at : List ℕ → List ℕ → Option (ArcPart × List ℕ)
arc_at letters bs = do
  to ← tip_at bs
  rest ← comma_at to.1
  link ← link_at rest
  rest' ← comma_at link.1
  long ← number_at rest'
  us ← fields_at letters long.1
  end ← newline_at us.1
  Some (record { tip = to.0; len = long.0; fields = us.0; next = link.0 }, end)

-- so many records of vertices, and of arcs
abbrev pub vertices_at : List ℕ → ℕ → List ℕ → Option (List VertexPart × List ℕ)
vertices_at letters n bs = each_at vertex_at (replicate n letters) bs

abbrev pub arcs_at : List ℕ → ℕ → List ℕ → Option (List ArcPart × List ℕ)
arcs_at letters n bs = each_at arc_at (replicate n letters) bs
