-- What each edit makes of a graph, and when it is refused.
use Rattle.std.specs.Prelude.{◌+◌, ℕ, ℤ, pos, List, [], ◌∷◌, ◌++◌, length, Option, Some, None, Bool, true, ◌&&◌, ◌==◌, nat_le, min, max, insert, remove, slice_index_or, slice_set, if◌then◌else◌}
use Rattle.std.specs.List.{list_any, position_or_len}
use Rattle.std.specs.Ordering.{int_eq}
use Rattle.sgb_graph.specs.declared.field.Tip.TheVariants.{To}
use Rattle.sgb_graph.specs.declared.field.Util.{Util}
use Rattle.sgb_graph.specs.declared.field.Util.TheVariants.{Zero, Int, Vertex, Arc, Text}
use Rattle.sgb_graph.specs.declared.field.Place.{Place}
use Rattle.sgb_graph.specs.declared.field.Place.TheVariants as places
use Rattle.sgb_graph.specs.declared.delta.CutArc.{CutArc}
use Rattle.sgb_graph.specs.declared.refusal.Refusal.{Refusal}
use Rattle.sgb_graph.specs.declared.refusal.Refusal.TheVariants.{TooLarge, BadOperand}
use Rattle.sgb_graph.specs.Field.{vertex_place, arc_place, graph_place}
use Rattle.sgb_graph.specs.Graph.{GraphOf, VertexOf, ArcOf, made_of, vertex_at, arcs_of, arc_at, has_vertex, has_arc, names_of}

-- one edit of one vertex, and one of one entry
abbrev pub with_vertex : GraphOf → ℕ → VertexOf → GraphOf
with_vertex g v x = record g { vertices = slice_set g.vertices v x }

abbrev pub with_entry : GraphOf → ℕ → Option ArcOf → GraphOf
with_entry g k e = record g { entries = slice_set g.entries k e }

abbrev pub with_arcs : GraphOf → ℕ → List ℕ → GraphOf
with_arcs g v ks = with_vertex g v (record (vertex_at g v) { arcs = ks })

-- the number stands at this place of the vertex's list, or stands there no more
unfoldable pub with_listed : GraphOf → ℕ → ℕ → ℕ → GraphOf
with_listed g v i k = with_arcs g v (insert (arcs_of g v) i k)

unfoldable pub without_listed : GraphOf → ℕ → ℕ → GraphOf
without_listed g v i = with_arcs g v (remove (arcs_of g v) i)

-- the next number is given to this arc, which no vertex lists yet
unfoldable pub with_entry_last : GraphOf → ArcOf → GraphOf
with_entry_last g e = record g { entries = g.entries ++ Some e ∷ [] }

-- an arc to the vertex, with its fields Zero
abbrev pub arc_to : ℕ → ℤ → ArcOf
arc_to v len = record { tip = To (record { 0 = v }); len = len; fields = Zero ∷ Zero ∷ [] }

-- a new arc from u to v, first in u's list
unfoldable pub with_arc : GraphOf → ℕ → ℕ → ℤ → GraphOf
with_arc g u v len = with_listed (with_entry_last g (arc_to v len)) u 0 (made_of g)

-- a new edge between u and v: its first arc leaves the smaller end, its second the larger; each is first in its
-- list, and of a loop the first arc stands before the second
unfoldable pub with_edge : GraphOf → ℕ → ℕ → ℤ → GraphOf
with_edge g u v len =
    let low = min u v in
    let high = max u v in
    let k = made_of g in
    let both = with_entry_last (with_entry_last g (arc_to high len)) (arc_to low len) in
    with_listed (with_listed both high 0 (k + 1)) low 0 k

-- the vertex whose list has the number, and the number's place there
abbrev pub owner_of : GraphOf → ℕ → ℕ
owner_of g k = position_or_len (λ v. list_any (λ j. j == k) v.arcs) g.vertices

abbrev pub place_of : GraphOf → ℕ → ℕ
place_of g k = position_or_len (λ j. j == k) (arcs_of g (owner_of g k))

-- the arc is cut: no list has its number, which is a hole
unfoldable pub without_arc : GraphOf → ℕ → GraphOf
without_arc g k = with_entry (without_listed g (owner_of g k) (place_of g k)) k None

-- the arc that a cut took away
abbrev pub arc_of : CutArc → ArcOf
arc_of c = record { tip = c.tip; len = c.len; fields = c.fields }

-- the arc stands again under its number, at its place in its owner's list
unfoldable pub with_cut_arc : GraphOf → CutArc → GraphOf
with_cut_arc g c = with_entry (with_listed g c.owner.0 c.place c.number.0) c.number.0 (Some (arc_of c))

-- a hole gives nothing
abbrev pub arc_or : ArcOf → Option ArcOf → ArcOf
arc_or d None = d
arc_or d (Some e) = e

-- what stands at a number that no arc has
abbrev pub no_arc : ArcOf
no_arc = record { tip = To (record { 0 = 0 }); len = pos 0; fields = [] }

abbrev pub entry_at : GraphOf → ℕ → ArcOf
entry_at g k = arc_or no_arc (arc_at g k)

unfoldable pub with_len : GraphOf → ℕ → ℤ → GraphOf
with_len g k len = with_entry g k (Some (record (entry_at g k) { len = len }))

unfoldable pub with_label : GraphOf → ℕ → List ℕ → GraphOf
with_label g v label = with_vertex g v (record (vertex_at g v) { label = label })

-- the value in a field
unfoldable pub util_at : GraphOf → Place → Util
util_at g (places.Vertex v f) = slice_index_or (vertex_at g v.0).fields (vertex_place f) Zero
util_at g (places.Arc k f) = slice_index_or (entry_at g k.0).fields (arc_place f) Zero
util_at g (places.Graph f) = slice_index_or g.fields (graph_place f) Zero

unfoldable pub with_util : GraphOf → Place → Util → GraphOf
with_util g (places.Vertex v f) u =
    with_vertex g v.0 (record (vertex_at g v.0) { fields = slice_set (vertex_at g v.0).fields (vertex_place f) u })
with_util g (places.Arc k f) u =
    with_entry g k.0 (Some (record (entry_at g k.0) { fields = slice_set (entry_at g k.0).fields (arc_place f) u }))
with_util g (places.Graph f) u = record g { fields = slice_set g.fields (graph_place f) u }

-- the value as it is stored: the number 0 and the empty text are Zero
abbrev pub stored : Util → Util
stored Zero = Zero
stored (Int z) = if int_eq z (pos 0) then Zero else Int z
stored (Vertex v) = Vertex v
stored (Arc a) = Arc a
stored (Text t) = if length t == 0 then Zero else Text t

-- no vertices and arcs but the ones of the graph are named
abbrev pub can_name : GraphOf → Util → Bool
can_name g Zero = true
can_name g (Int z) = true
can_name g (Vertex v) = has_vertex g v.0
can_name g (Arc a) = has_arc g a.0
can_name g (Text t) = true

abbrev pub has_place : GraphOf → Place → Bool
has_place g (places.Vertex v f) = has_vertex g v.0
has_place g (places.Arc k f) = has_arc g k.0
has_place g (places.Graph f) = true

-- the first refusal of each edit, want of memory aside
abbrev pub refusal_unless : Bool → Refusal → Option Refusal → Option Refusal
refusal_unless ok r later = if ok then later else Some r

abbrev pub refusal_of_new : ℕ → Option Refusal
refusal_of_new n = refusal_unless (nat_le n 65535) TooLarge None

abbrev pub refusal_of_arc : GraphOf → ℕ → ℕ → Option Refusal
refusal_of_arc g u v =
    refusal_unless (has_vertex g u && has_vertex g v) BadOperand
    (refusal_unless (nat_le (made_of g + 1) 1000000) TooLarge None)

abbrev pub refusal_of_edge : GraphOf → ℕ → ℕ → Option Refusal
refusal_of_edge g u v =
    refusal_unless (has_vertex g u && has_vertex g v) BadOperand
    (refusal_unless (nat_le (made_of g + 2) 1000000) TooLarge None)

abbrev pub refusal_of_cut : GraphOf → ℕ → Option Refusal
refusal_of_cut g k = refusal_unless (has_arc g k && (names_of g k == 0)) BadOperand None

abbrev pub refusal_of_len : GraphOf → ℕ → Option Refusal
refusal_of_len g k = refusal_unless (has_arc g k) BadOperand None

abbrev pub refusal_of_util : GraphOf → Place → Util → Option Refusal
refusal_of_util g p u = refusal_unless (has_place g p && can_name g u) BadOperand None

abbrev pub refusal_of_label : GraphOf → ℕ → Option Refusal
refusal_of_label g v = refusal_unless (has_vertex g v) BadOperand None

abbrev pub refusal_of_id : List ℕ → Option Refusal
refusal_of_id t = refusal_unless (nat_le (length t) 160) BadOperand None
