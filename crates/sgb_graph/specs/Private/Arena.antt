-- The arena of arcs: how its fields show a graph.
use Rattle.std.specs.Prelude.{◌≡◌, ◌<◌, ◌+◌, ℕ, ℤ, pos, List, [], map, length, Option, Some, None, IfSome, IsSome, All, slice_index_or}
use Rattle.sgb_graph.specs.declared.field.VertexNo.{VertexNo}
use Rattle.sgb_graph.specs.declared.field.ArcNo.{ArcNo}
use Rattle.sgb_graph.specs.declared.field.Tip.{Tip}
use Rattle.sgb_graph.specs.declared.graph.Vertex.{Vertex}
use Rattle.sgb_graph.specs.declared.graph.arena.Slot.{Slot}
use Rattle.sgb_graph.specs.declared.graph.read.ArcView.{ArcView}
use Rattle.sgb_graph.specs.declared.graph.Graph.TheInside.{Inside}
use Rattle.sgb_graph.specs.Chain.{Leads, chain}
use Rattle.sgb_graph.specs.Graph.{GraphOf, VertexOf, ArcOf, n_of, made_of, m_of, vertex_at, arcs_of, arc_at, occurrences, names_of, IsGraph, IsVertex}

abbrev pub Slots : Type 0
Slots = List (Option Slot)

-- which number follows in its list; a hole is followed by none
abbrev pub next_of : Option Slot → Option ArcNo
next_of None = None
next_of (Some s) = s.next

abbrev pub slot_at : Slots → ℕ → Option Slot
slot_at ss k = slice_index_or ss k None

abbrev pub next_at : Slots → ℕ → Option ArcNo
next_at ss k = next_of (slot_at ss k)

-- the arc or the hole that the slot shows
abbrev pub entry_of : Option Slot → Option ArcOf
entry_of None = None
entry_of (Some s) = Some (record { tip = s.tip; len = s.len; fields = s.fields })

-- the numbers from this link on
abbrev pub numbers : Slots → Option ArcNo → List ℕ
numbers ss link = chain (next_at ss) (length ss) link

abbrev pub vertex_of : Slots → Vertex → VertexOf
vertex_of ss v = record { label = v.label; fields = v.fields; arcs = numbers ss v.first }

abbrev pub graph_of : Inside → GraphOf
graph_of a = record {
  id = a.id;
  types = a.types;
  fields = a.fields;
  vertices = map (vertex_of a.slots) a.vertices;
  entries = map entry_of a.slots;
}

-- the numbers from this link on come to an end, and name arcs that live
pub record IsLinked (ss : Slots) (link : Option ArcNo) : Type 0 where
  pub ends : Leads (next_at ss) link (numbers ss link) None
  pub live : All (λ k. IsSome (slot_at ss k)) (numbers ss link)

pub record ShowsVertex (ss : Slots) (v : Vertex) (x : VertexOf) : Type 0 where
  pub label : v.label ≡ x.label
  pub fields : v.fields ≡ x.fields
  pub arcs : Leads (next_at ss) v.first x.arcs None

-- the vertex that the slot names as owner, and its count of the fields that name its arc
abbrev pub owner_in : Option Slot → Option VertexNo
owner_in None = None
owner_in (Some s) = Some s.owner

abbrev pub names_counted : Option Slot → Option ℕ
names_counted None = None
names_counted (Some s) = Some s.names

-- these vertices and slots show the vertices and entries of the graph
pub record Shows (vs : List Vertex) (ss : Slots) (g : GraphOf) : Type 0 where
  pub n : length vs ≡ n_of g
  pub vertices : (v : ℕ) (d : Vertex) → v < n_of g → ShowsVertex ss (slice_index_or vs v d) (vertex_at g v)
  pub made : length ss ≡ made_of g
  pub entries : (k : ℕ) → entry_of (slot_at ss k) ≡ arc_at g k
  pub owners : (k : ℕ) → IfSome (owner_in (slot_at ss k)) (λ v. occurrences k (arcs_of g v.0) ≡ 1)
  pub names : (k : ℕ) → IfSome (names_counted (slot_at ss k)) (λ n. n ≡ names_of g k)

pub record IsArena (a : Inside) : Type 0 where
  pub graph : IsGraph (graph_of a)
  pub shows : Shows a.vertices a.slots (graph_of a)
  pub holes : a.holes + m_of (graph_of a) ≡ made_of (graph_of a)

-- the arc as the readers show it
abbrev pub view_in : Option Slot → Option ArcView
view_in None = None
view_in (Some s) = Some (record { owner = s.owner; tip = s.tip; len = s.len })

-- the tip of the arc in a slot
abbrev pub tip_in : Option Slot → Option Tip
tip_in None = None
tip_in (Some s) = Some s.tip

-- the length in a slot, and the slot with another one
abbrev pub len_in : Option Slot → ℤ
len_in None = pos 0
len_in (Some s) = s.len

abbrev pub with_len_in : ℤ → Option Slot → Option Slot
with_len_in len None = None
with_len_in len (Some s) = Some (record s { len = len })

-- a vertex that lists no arcs, and what it shows
pub record IsBare (n : ℕ) (v : Vertex) : Type 0 where
  pub first : v.first ≡ None
  pub shown : IsVertex n [] (record { label = v.label; fields = v.fields; arcs = [] })

abbrev pub bare_vertex : Vertex → VertexOf
bare_vertex v = record { label = v.label; fields = v.fields; arcs = [] }
