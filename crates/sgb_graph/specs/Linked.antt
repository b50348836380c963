-- The graph of parts that are linked by number, as a function of the parts.
use Rattle.std.specs.Prelude.{◌+◌, ◌==◌, ℕ, List, length, map, Option, Some, None, if◌then◌else◌}
use Rattle.std.specs.List.{range_with_len}
use Rattle.sgb_graph.specs.declared.parts.ArcPart.{ArcPart}
use Rattle.sgb_graph.specs.declared.parts.VertexPart.{VertexPart}
use Rattle.sgb_graph.specs.declared.parts.Parts.{Parts}
use Rattle.sgb_graph.specs.Chain.{chain}
use Rattle.sgb_graph.specs.Edit.{stored}
use Rattle.sgb_graph.specs.Graph.{GraphOf, VertexOf, ArcOf, listings}
use Rattle.sgb_graph.specs.Parts.{arc_part, next_part}
use Rattle.sgb_graph.specs.Sound.{is_graph}

-- the vertex of its part: its list is the chain from its first arc on. One number more than there are records shows
-- a chain that returns
abbrev pub linked_vertex : List ArcPart → VertexPart → VertexOf
linked_vertex rs part =
    record { label = part.label; fields = map stored part.fields; arcs = chain (next_part rs) (length rs + 1) part.first }

-- the arc of its record
abbrev pub linked_arc : ArcPart → ArcOf
linked_arc part = record { tip = part.tip; len = part.len; fields = map stored part.fields }

-- what stands at number k: the arc of its record where one of the vertices lists it, else a hole
abbrev pub linked_entry : List VertexOf → List ArcPart → ℕ → Option ArcOf
linked_entry vertices rs k = if listings k vertices == 0 then None else Some (linked_arc (arc_part rs k))

abbrev pub linked_vertices : Parts → List VertexOf
linked_vertices p = map (linked_vertex p.arcs) p.vertices

abbrev pub linked_entries : Parts → List (Option ArcOf)
linked_entries p = map (linked_entry (linked_vertices p) p.arcs) (range_with_len 0 (length p.arcs))

-- the parts put together, whether or not a sound graph comes of them
unfoldable pub linked : Parts → GraphOf
linked p = record {
  id = p.id;
  types = p.types;
  fields = map stored p.fields;
  vertices = linked_vertices p;
  entries = linked_entries p;
}

-- the graph of these parts; none where what they are put together to is not sound
unfoldable pub graph_of_parts : Parts → Option GraphOf
graph_of_parts p = if is_graph (linked p) then Some (linked p) else None
