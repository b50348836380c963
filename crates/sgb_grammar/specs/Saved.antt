-- A whole saved text.
use Rattle.std.specs.Prelude.{◌≡◌, ℕ, ℤ, ◌-◌, nat_le, List, [], ◌∷◌, ◌++◌, take, length, codes, Option, Some, None, Result, Ok, Err, if◌then◌else◌}
use Rattle.sgb_graph.specs.Honest.{vertex_letters, arc_letters, graph_letters}
use Rattle.sgb_graph.specs.declared.parts.Parts.{Parts}
use Rattle.sgb_graph.specs.declared.parts.VertexPart.{VertexPart}
use Rattle.sgb_graph.specs.declared.parts.ArcPart.{ArcPart}
use Rattle.sgb_grammar.specs.declared.fault.Fault.{Fault}
use Rattle.sgb_grammar.specs.declared.records.Own.{Own}
use Rattle.sgb_grammar.specs.declared.saved.Records.{Records}
use Rattle.sgb_grammar.specs.declared.saved.Saved.{Saved}
use Rattle.sgb_grammar.specs.declared.header.Header.{Header}
use Rattle.sgb_grammar.specs.Reading.{◌>>=◌, after, Fails}
use Rattle.sgb_grammar.specs.Number.{number_at}
use Rattle.sgb_grammar.specs.Record.{own_at, vertices_at, arcs_at, newline_at}
use Rattle.sgb_grammar.specs.Header.{ends_line}

-- what a text holds under its first line: the parts of a graph, the check number, and what stands before the check line
pub record SavedOf : Type 0 where
  pub parts : Parts
  pub number : ℤ
  pub body : List ℕ

-- the graph's own record, where it has at most so many vertices as the first line says
unfoldable pub own_in : Header → List ℕ → Option (Own × List ℕ)
own_in h bs = do
  own ← own_at (graph_letters h.types) bs
  if nat_le own.0.n h.vertices then Some own else None

-- the records of vertices, and of arcs, as many as the first line says
unfoldable pub vertices_in : Header → List ℕ → Option (List VertexPart × List ℕ)
vertices_in h bs = do
  rest ← after (codes "* Vertices" ++ 10 ∷ []) bs
  vertices_at (vertex_letters h.types) h.vertices rest

unfoldable pub arcs_in : Header → List ℕ → Option (List ArcPart × List ℕ)
arcs_in h bs = do
  rest ← after (codes "* Arcs" ++ 10 ∷ []) bs
  arcs_at (arc_letters h.types) h.arcs rest

-- all records
unfoldable pub records_in : Header → List ℕ → Option (Records × List ℕ)
records_in h bs = do
  own ← own_in h bs
  vs ← vertices_in h own.1
  rs ← arcs_in h vs.1
  Some (record { own = own.0; vertices = vs.0; arcs = rs.0 }, rs.1)

-- the check line: what follows it is not read
unfoldable pub check_line_in : List ℕ → Option ℤ
check_line_in bs = do
  rest ← after (codes "* Checksum ") bs
  number ← number_at rest
  if ends_line number.1 then Some number.0 else None

-- the parts of the graph: its vertices are the first n, and those behind them are none of it
abbrev pub parts_of : Header → Records → Parts
parts_of h r = record { id = r.own.id; types = h.types; fields = r.own.fields; vertices = take r.own.n r.vertices; arcs = r.arcs }

-- what the bytes behind the first line spell
unfoldable pub saved_in : Header → List ℕ → Option SavedOf
saved_in h bs = do
  lines ← newline_at bs
  records ← records_in h lines
  number ← check_line_in records.1
  Some (record { parts = parts_of h records.0; number = number; body = take (length lines - length records.1) lines })

-- ---- what the reader of a text answers

abbrev pub shown : Saved → SavedOf
shown s = record { parts = s.parts; number = s.number; body = s.body.now }

abbrev pub Holds : Result Saved Fault → Option SavedOf → Type 0
Holds (Ok s) m = m ≡ Some (shown s)
Holds (Err e) m = Fails e m
