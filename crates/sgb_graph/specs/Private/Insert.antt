-- New arcs, as they are linked into a graph.
use Rattle.std.specs.Prelude.{◌+◌, ℕ, List, [], ◌∷◌, ◌++◌, length, min, max, Some, None, ◌≡◌, ◌≤◌, ◌<◌, ◌⊎◌, ℤ, Option}
use Rattle.sgb_graph.specs.declared.field.VertexNo.{VertexNo}
use Rattle.sgb_graph.specs.declared.graph.Vertex as vertex
use Rattle.sgb_graph.specs.Builder.{Insertion}
use Rattle.sgb_graph.specs.Field.{arc_no}
use Rattle.sgb_graph.specs.Private.Arena.{Slots, Shows}
use Rattle.sgb_graph.specs.Private.Link.{vertex_in, vertices_relinked, CanPutBack}
use Rattle.sgb_graph.specs.declared.field.ArcNo.{ArcNo}
use Rattle.sgb_graph.specs.declared.field.Tip.TheVariants.{To}
use Rattle.sgb_graph.specs.declared.field.Util.TheVariants.{Zero}
use Rattle.sgb_graph.specs.declared.delta.CutArc.{CutArc}
use Rattle.sgb_graph.specs.declared.refusal.Refusal.{Refusal}
use Rattle.sgb_graph.specs.declared.refusal.Refusal.TheVariants.{NoRoom, TooLarge}
use Rattle.sgb_graph.specs.declared.graph.arena.Slot.{Slot}
use Rattle.sgb_graph.specs.Graph.{GraphOf, IsGraph}
use Rattle.sgb_graph.specs.Edit.{with_cut_arc}

-- the arc of this number, first in the list of its owner
abbrev pub new_cut : ArcNo → VertexNo → VertexNo → ℤ → CutArc
new_cut number owner to len =
    record { number = number; owner = owner; place = 0; tip = To to; len = len; fields = Zero ∷ Zero ∷ [] }

-- the slot of a new arc
abbrev pub new_slot : VertexNo → VertexNo → Option ArcNo → ℤ → Slot
new_slot owner to next len =
    record { owner = owner; tip = To to; next = next; names = 0; len = len; fields = Zero ∷ Zero ∷ [] }

-- the first link of a vertex where the second arc of an edge was linked first
abbrev pub first_behind : List vertex.Vertex → ℕ → ℕ → ℕ → Option ArcNo
first_behind vs number low high = (vertex_in (vertices_relinked vs high None (Some (arc_no (number + 1)))) low).first

-- two arcs are put into the graph, one after the other
abbrev pub PutsBoth : List vertex.Vertex → Slots → CutArc → CutArc → List vertex.Vertex → Slots → Type 0
PutsBoth vs ss c d ws ts =
    (g : GraphOf) → Shows vs ss g → IsGraph g → CanPutBack g c → CanPutBack (with_cut_arc g c) d → Shows ws ts (with_cut_arc (with_cut_arc g c) d)

-- so many numbers are refused: for want of memory, or where they are more than a graph gives out, for that
abbrev pub IsRefusedAt : ℕ → Refusal → Type 0
IsRefusedAt made e = ((e ≡ NoRoom) × (made ≤ 1000000)) ⊎ ((e ≡ TooLarge) × (1000000 < made))

-- the vertices and slots of a graph
pub record Both : Type 0 where
  pub vertices : List vertex.Vertex
  pub slots : Slots

abbrev pub both : List vertex.Vertex → Slots → Both
both vs ss = record { vertices = vs; slots = ss }

abbrev pub vertex_no : ℕ → VertexNo
vertex_no v = record { 0 = v }

-- the vertices and slots with one arc more
unfoldable pub with_new_arc : Both → Insertion → Both
with_new_arc x e =
    both (vertices_relinked x.vertices e.from None (Some (arc_no (length x.slots))))
    (x.slots ++ Some (new_slot (vertex_no e.from) (vertex_no e.to) (vertex_in x.vertices e.from).first e.len) ∷ [])

-- the first links of the ends of a new edge
abbrev pub relinked_both : List vertex.Vertex → ℕ → ℕ → ℕ → List vertex.Vertex
relinked_both vs k low high = vertices_relinked (vertices_relinked vs high None (Some (arc_no (k + 1)))) low None (Some (arc_no k))

-- the vertices and slots with one edge more, from its smaller end on
unfoldable pub with_new_edge : Both → Insertion → Both
with_new_edge x e =
    both (relinked_both x.vertices (length x.slots) (min e.from e.to) (max e.from e.to))
    ((x.slots ++ Some (new_slot (vertex_no (min e.from e.to)) (vertex_no (max e.from e.to)) (first_behind x.vertices (length x.slots) (min e.from e.to) (max e.from e.to)) e.len) ∷ [])
    ++ Some (new_slot (vertex_no (max e.from e.to)) (vertex_no (min e.from e.to)) (vertex_in x.vertices (max e.from e.to)).first e.len) ∷ [])
