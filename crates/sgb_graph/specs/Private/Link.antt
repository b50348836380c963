-- What relinking does to the fields of a graph.
use Rattle.std.specs.Prelude.{◌+◌, ℕ, List, ◌≡◌, ◌<◌, ◌≤◌, ◌-◌, zero, suc, length, Option, Some, None, IfSome, true, option_map, slice_get, slice_set, slice_index_or, []}
use Rattle.sgb_graph.specs.declared.graph.Vertex as vertex
use Rattle.sgb_graph.specs.Graph.{GraphOf, IsGraph, IsArc, n_of, made_of, arcs_of, arc_at, has_arc, names_of}
use Rattle.sgb_graph.specs.Edit.{without_arc, with_cut_arc, arc_of}
use Rattle.sgb_graph.specs.Private.Arena.{Slots, Shows, next_at, slot_at, names_counted}
use Rattle.sgb_graph.specs.declared.field.ArcNo.{ArcNo}
use Rattle.sgb_graph.specs.declared.field.Util.{Util}
use Rattle.sgb_graph.specs.declared.field.Util.TheVariants.{Zero, Int, Vertex, Arc, Text}
use Rattle.sgb_graph.specs.declared.delta.CutArc.{CutArc}
use Rattle.sgb_graph.specs.declared.graph.arena.Slot.{Slot}
use Rattle.sgb_graph.specs.Delta.{cut_arc}
use Rattle.sgb_graph.specs.Field.{arc_no}

-- a vertex that stands nowhere
abbrev pub any_vertex : vertex.Vertex
any_vertex = record { label = []; fields = []; first = None }

abbrev pub vertex_in : List vertex.Vertex → ℕ → vertex.Vertex
vertex_in vs v = slice_index_or vs v any_vertex

-- the number that stands before place i of the list
abbrev pub number_before : List ℕ → ℕ → Option ArcNo
number_before ks zero = None
number_before ks (suc i) = option_map arc_no (slice_get ks i)

-- the slot with another link
abbrev pub with_next : Option ArcNo → Option Slot → Option Slot
with_next link None = None
with_next link (Some s) = Some (record s { next = link })

-- the link that follows this arc, or else the first link of this vertex
abbrev pub link_after : List vertex.Vertex → Slots → ℕ → Option ArcNo → Option ArcNo
link_after vs ss v None = (vertex_in vs v).first
link_after vs ss v (Some p) = next_at ss p.0

-- that link replaced
abbrev pub vertices_relinked : List vertex.Vertex → ℕ → Option ArcNo → Option ArcNo → List vertex.Vertex
vertices_relinked vs v None link = slice_set vs v (record (vertex_in vs v) { first = link })
vertices_relinked vs v (Some p) link = vs

abbrev pub slots_relinked : Slots → Option ArcNo → Option ArcNo → Slots
slots_relinked ss None link = ss
slots_relinked ss (Some p) link = slice_set ss p.0 (with_next link (slot_at ss p.0))

-- one field more, or one less, names the arc
abbrev pub named_more : Option Slot → Option Slot
named_more None = None
named_more (Some s) = Some (record s { names = s.names + 1 })

abbrev pub named_less : Option Slot → Option Slot
named_less None = None
named_less (Some s) = Some (record s { names = s.names - 1 })

-- a field got this value, or lost it
abbrev pub slots_gaining : Slots → Util → Slots
slots_gaining ss Zero = ss
slots_gaining ss (Int z) = ss
slots_gaining ss (Vertex v) = ss
slots_gaining ss (Arc a) = slice_set ss a.0 (named_more (slot_at ss a.0))
slots_gaining ss (Text t) = ss

abbrev pub slots_losing : Slots → Util → Slots
slots_losing ss Zero = ss
slots_losing ss (Int z) = ss
slots_losing ss (Vertex v) = ss
slots_losing ss (Arc a) = slice_set ss a.0 (named_less (slot_at ss a.0))
slots_losing ss (Text t) = ss

-- the value at this place of the fields
abbrev pub value_at : List Util → ℕ → Util
value_at us i = slice_index_or us i Zero

-- both fields of an arc
abbrev pub slots_gaining_both : Slots → List Util → Slots
slots_gaining_both ss us = slots_gaining (slots_gaining ss (value_at us 0)) (value_at us 1)

abbrev pub slots_losing_both : Slots → List Util → Slots
slots_losing_both ss us = slots_losing (slots_losing ss (value_at us 0)) (value_at us 1)

-- a value that names an arc names a slot, whose count is within these bounds
abbrev pub IsCounted : Slots → ℕ → ℕ → Util → Type 0
IsCounted ss low high Zero = Unit {0}
IsCounted ss low high (Int z) = Unit {0}
IsCounted ss low high (Vertex v) = Unit {0}
IsCounted ss low high (Arc a) = (a.0 < length ss) × IfSome (names_counted (slot_at ss a.0)) (λ n. (low ≤ n) × (n < high))
IsCounted ss low high (Text t) = Unit {0}

-- the arc can be put into the graph: its number is a hole, its place is in the list of its owner, and it is sound
pub record CanPutBack (g : GraphOf) (c : CutArc) : Type 0 where
  pub hole : arc_at g c.number.0 ≡ None
  pub made : c.number.0 < made_of g
  pub owner : c.owner.0 < n_of g
  pub place : c.place ≤ length (arcs_of g c.owner.0)
  pub arc : IsArc (n_of g) g.entries (arc_of c)

-- of every sound graph that the fields show, they then show the graph with the arc
abbrev pub PutsBack : List vertex.Vertex → Slots → CutArc → List vertex.Vertex → Slots → Type 0
PutsBack vs ss c ws ts = (g : GraphOf) → Shows vs ss g → IsGraph g → CanPutBack g c → Shows ws ts (with_cut_arc g c)

-- there is such a graph
pub record CanBePutBack (vs : List vertex.Vertex) (ss : Slots) (c : CutArc) : Type 0 where
  pub graph : GraphOf
  pub sound : IsGraph graph
  pub shows : Shows vs ss graph
  pub can : CanPutBack graph c

-- the arc can be taken out: it lives, and no field names it
pub record CanTakeOut (g : GraphOf) (k : ℕ) : Type 0 where
  pub live : has_arc g k ≡ true
  pub unnamed : names_of g k ≡ 0

abbrev pub TakesOut : List vertex.Vertex → Slots → ℕ → CutArc → List vertex.Vertex → Slots → Type 0
TakesOut vs ss k c ws ts = (g : GraphOf) → Shows vs ss g → IsGraph g → CanTakeOut g k → (c ≡ cut_arc g k) × Shows ws ts (without_arc g k)

pub record CanBeTakenOut (vs : List vertex.Vertex) (ss : Slots) (k : ℕ) : Type 0 where
  pub graph : GraphOf
  pub sound : IsGraph graph
  pub shows : Shows vs ss graph
  pub can : CanTakeOut graph k
