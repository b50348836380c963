-- What putting a value into a field does to the fields of a graph.
use Rattle.std.specs.Prelude.{◌≡◌, ◌<◌, ℕ, List, [], length, true, Option, Some, None, slice_index_or, slice_set}
use Rattle.sgb_graph.specs.declared.field.Util.{Util}
use Rattle.sgb_graph.specs.declared.field.Util.TheVariants as utils
use Rattle.sgb_graph.specs.declared.field.Place.{Place}
use Rattle.sgb_graph.specs.declared.field.Place.TheVariants.{Vertex, Arc, Graph}
use Rattle.sgb_graph.specs.declared.graph.Vertex as vertex
use Rattle.sgb_graph.specs.declared.graph.arena.Slot.{Slot}
use Rattle.sgb_graph.specs.Field.{vertex_place, arc_place, graph_place}
use Rattle.sgb_graph.specs.Graph.{GraphOf, IsValue, n_of}
use Rattle.sgb_graph.specs.Edit.{has_place}
use Rattle.sgb_graph.specs.Private.Arena.{Slots, slot_at}
use Rattle.sgb_graph.specs.Private.Link.{vertex_in}

abbrev pub fields_in : Option Slot → List Util
fields_in None = []
fields_in (Some s) = s.fields

abbrev pub with_field : ℕ → Util → Option Slot → Option Slot
with_field i u None = None
with_field i u (Some s) = Some (record s { fields = slice_set s.fields i u })

-- the value in a field, and the lists with another one
abbrev pub value_in : List Util → List vertex.Vertex → Slots → Place → Util
value_in us vs ss (Vertex v f) = slice_index_or (vertex_in vs v.0).fields (vertex_place f) utils.Zero
value_in us vs ss (Arc k f) = slice_index_or (fields_in (slot_at ss k.0)) (arc_place f) utils.Zero
value_in us vs ss (Graph f) = slice_index_or us (graph_place f) utils.Zero

abbrev pub fields_with : List Util → Place → Util → List Util
fields_with us (Vertex v f) u = us
fields_with us (Arc k f) u = us
fields_with us (Graph f) u = slice_set us (graph_place f) u

abbrev pub vertices_with : List vertex.Vertex → Place → Util → List vertex.Vertex
vertices_with vs (Vertex v f) u =
    slice_set vs v.0 (record (vertex_in vs v.0) { fields = slice_set (vertex_in vs v.0).fields (vertex_place f) u })
vertices_with vs (Arc k f) u = vs
vertices_with vs (Graph f) u = vs

abbrev pub slots_with : Slots → Place → Util → Slots
slots_with ss (Vertex v f) u = ss
slots_with ss (Arc k f) u = slice_set ss k.0 (with_field (arc_place f) u (slot_at ss k.0))
slots_with ss (Graph f) u = ss

-- the place is one of these fields
abbrev pub IsPlaceIn : List Util → List vertex.Vertex → Slots → Place → Type 0
IsPlaceIn us vs ss (Vertex v f) = (v.0 < length vs) × (length (vertex_in vs v.0).fields ≡ 6)
IsPlaceIn us vs ss (Arc k f) = (k.0 < length ss) × (length (fields_in (slot_at ss k.0)) ≡ 2)
IsPlaceIn us vs ss (Graph f) = length us ≡ 6

-- a value can be put into a field: the field is there, and the value is sound
pub record CanExchange (g : GraphOf) (p : Place) (u : Util) : Type 0 where
  pub place : has_place g p ≡ true
  pub value : IsValue (n_of g) g.entries u
