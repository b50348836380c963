-- The graph of parts that are linked by number.
use Rattle.std.specs.Prelude.{◌≡◌, ◌<◌, ℕ, pos, List, [], length, map, None, Option, IfSome, slice_index_or}
use Rattle.sgb_graph.specs.declared.field.ArcNo.{ArcNo}
use Rattle.sgb_graph.specs.declared.field.Util.{Util}
use Rattle.sgb_graph.specs.declared.field.Tip.TheVariants.{Zero}
use Rattle.sgb_graph.specs.declared.parts.ArcPart.{ArcPart}
use Rattle.sgb_graph.specs.declared.parts.VertexPart.{VertexPart}
use Rattle.sgb_graph.specs.declared.parts.Parts.{Parts}
use Rattle.sgb_graph.specs.Chain.{Leads}
use Rattle.sgb_graph.specs.Edit.{stored}
use Rattle.sgb_graph.specs.Graph.{GraphOf, VertexOf, ArcOf, IsGraph, n_of, made_of, vertex_at, arc_at}

-- the vertex and the record of a number, and what stands at a number that none has
abbrev pub any_vertex_part : VertexPart
any_vertex_part = record { label = []; fields = []; first = None }

abbrev pub any_arc_part : ArcPart
any_arc_part = record { tip = Zero; len = pos 0; fields = []; next = None }

abbrev pub vertex_part : List VertexPart → ℕ → VertexPart
vertex_part vs v = slice_index_or vs v any_vertex_part

abbrev pub arc_part : List ArcPart → ℕ → ArcPart
arc_part rs k = slice_index_or rs k any_arc_part

-- the number that record k says follows; none beyond the records
abbrev pub next_part : List ArcPart → ℕ → Option ArcNo
next_part rs k = (arc_part rs k).next

-- the vertex has the name and the values, and its list is the chain from its first arc on
pub record IsVertexOf (rs : List ArcPart) (part : VertexPart) (x : VertexOf) : Type 0 where
  pub label : x.label ≡ part.label
  pub fields : x.fields ≡ map stored part.fields
  pub arcs : Leads (next_part rs) part.first x.arcs None

-- the arc is its record
pub record IsArcOf (part : ArcPart) (e : ArcOf) : Type 0 where
  pub tip : e.tip ≡ part.tip
  pub len : e.len ≡ part.len
  pub fields : e.fields ≡ map stored part.fields

-- the graph of these parts: its lists are the chains, and a live arc is its record
pub record BuildsOf (name letters : List ℕ) (values : List Util) (vs : List VertexPart) (rs : List ArcPart) (g : GraphOf) : Type 0 where
  pub id : g.id ≡ name
  pub types : g.types ≡ letters
  pub fields : g.fields ≡ map stored values
  pub n : n_of g ≡ length vs
  pub vertices : (v : ℕ) → v < n_of g → IsVertexOf rs (vertex_part vs v) (vertex_at g v)
  pub made : made_of g ≡ length rs
  pub arcs : (k : ℕ) → IfSome (arc_at g k) (IsArcOf (arc_part rs k))
  pub graph : IsGraph g

abbrev pub Builds : Parts → GraphOf → Type 0
Builds p g = BuildsOf p.id p.types p.fields p.vertices p.arcs g
