-- Putting the values of parts into the fields of a graph.
use Rattle.std.specs.Prelude.{ℕ, ℤ, Option, Some, None, Bool, true, nat_lt, ◌≡◌, ◌<◌, List, [], length, map, ◌&&◌, if◌then◌else◌}
use Rattle.sgb_graph.specs.declared.field.Tip.{Tip}
use Rattle.sgb_graph.specs.declared.field.Tip.TheVariants as tips
use Rattle.sgb_graph.specs.declared.graph.arena.Slot.{Slot}
use Rattle.sgb_graph.specs.Edit.{with_entry, entry_at, with_vertex, can_name, stored}
use Rattle.sgb_graph.specs.Graph.{GraphOf, VertexOf, ArcOf, IsGraph, n_of, made_of, vertex_at, arc_at, has_arc}
use Rattle.std.specs.List.{list_all, range_with_len}
use Rattle.sgb_graph.specs.declared.field.Util.{Util}
use Rattle.sgb_graph.specs.declared.parts.ArcPart.{ArcPart}
use Rattle.sgb_graph.specs.declared.parts.VertexPart.{VertexPart}
use Rattle.sgb_graph.specs.Parts.{vertex_part, arc_part}

-- a tip that names a vertex names one below n
abbrev pub can_lead : ℕ → Tip → Bool
can_lead n tips.Zero = true
can_lead n tips.One = true
can_lead n (tips.To v) = nat_lt v.0 n

-- the arc of this number leads elsewhere, by another length
unfoldable pub with_aim : GraphOf → ℕ → Tip → ℤ → GraphOf
with_aim g k tip len = with_entry g k (Some (record (entry_at g k) { tip = tip; len = len }))

abbrev pub with_aim_in : Tip → ℤ → Option Slot → Option Slot
with_aim_in tip len None = None
with_aim_in tip len (Some s) = Some (record s { tip = tip; len = len })

-- the same vertices and arcs can be named
pub record SameNames (g h : GraphOf) : Type 0 where
  pub n : n_of h ≡ n_of g
  pub live : (k : ℕ) → has_arc h k ≡ has_arc g k

-- each value names a vertex or an arc that is there, if any
abbrev pub can_name_each : GraphOf → List Util → Bool
can_name_each g us = list_all (can_name g) us

-- the record's tip and its values
abbrev pub can_name_part : GraphOf → ArcPart → Bool
can_name_part g part = can_lead (n_of g) part.tip && can_name_each g part.fields

-- the same, where its arc lives
abbrev pub can_name_at : GraphOf → List ArcPart → ℕ → Bool
can_name_at g rs k = if has_arc g k then can_name_part g (arc_part rs k) else true

abbrev pub can_name_vertices : GraphOf → List VertexPart → Bool
can_name_vertices g vs = list_all (λ part. can_name_each g part.fields) vs

abbrev pub can_name_arcs : GraphOf → List ArcPart → Bool
can_name_arcs g rs = list_all (can_name_at g rs) (range_with_len 0 (length rs))

abbrev pub can_name_all : GraphOf → List Util → List VertexPart → Bool
can_name_all g us vs = can_name_each g us && can_name_vertices g vs

-- the vertex with these values
unfoldable pub with_filled_vertex : GraphOf → ℕ → List Util → GraphOf
with_filled_vertex g v us = with_vertex g v (record (vertex_at g v) { fields = map stored us })

-- the vertex with the name and the values of its part
abbrev pub filled_vertex : VertexPart → VertexOf → VertexOf
filled_vertex part x = record x { label = part.label; fields = map stored part.fields }

-- a live arc as its record says
abbrev pub filled_entry : ArcPart → Option ArcOf → Option ArcOf
filled_entry part None = None
filled_entry part (Some e) = Some (record { tip = part.tip; len = part.len; fields = map stored part.fields })

unfoldable pub with_filled_arc : GraphOf → ℕ → ArcPart → GraphOf
with_filled_arc g k part = with_entry g k (filled_entry part (arc_at g k))

-- all vertices have the names and the values of their parts
pub record FillsVertices (vs : List VertexPart) (g h : GraphOf) : Type 0 where
  pub n : n_of h ≡ n_of g
  pub vertices : (v : ℕ) → v < n_of g → vertex_at h v ≡ filled_vertex (vertex_part vs v) (vertex_at g v)
  pub rest : record h { vertices = [] } ≡ record g { vertices = [] }
  pub graph : IsGraph h

-- all live arcs are as their records say
pub record FillsArcs (rs : List ArcPart) (g h : GraphOf) : Type 0 where
  pub rest : record h { entries = [] } ≡ record g { entries = [] }
  pub made : made_of h ≡ made_of g
  pub entries : (k : ℕ) → arc_at h k ≡ filled_entry (arc_part rs k) (arc_at g k)
  pub graph : IsGraph h
