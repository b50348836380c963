-- Small parts, and their graphs.
use Rattle.std.specs.Prelude.{ℕ, pos, List, [], ◌∷◌, map, replicate, Option, Some}
use Rattle.sgb_graph.specs.declared.field.ArcNo.{ArcNo}
use Rattle.sgb_graph.specs.declared.field.Tip.TheVariants.{To}
use Rattle.sgb_graph.specs.declared.field.Util.{Util}
use Rattle.sgb_graph.specs.declared.field.Util.TheVariants.{Zero, Int, Arc}
use Rattle.sgb_graph.specs.declared.parts.ArcPart.{ArcPart}
use Rattle.sgb_graph.specs.declared.parts.VertexPart.{VertexPart}
use Rattle.sgb_graph.specs.declared.parts.Parts.{Parts}
use Rattle.sgb_graph.specs.Graph.{GraphOf, VertexOf, ArcOf}

abbrev pub zeros : List Util
zeros = replicate 6 Zero

abbrev pub link : ℕ → Option ArcNo
link k = Some (record { 0 = k })

-- the value that names arc k
abbrev pub names : ℕ → Util
names k = Arc (record { 0 = k })

abbrev pub vertex_from : Option ArcNo → VertexPart
vertex_from first = record { label = 97 ∷ []; fields = zeros; first = first }

-- parts without a name, whose vertices begin at these links
abbrev pub parts : List (Option ArcNo) → List ArcPart → Parts
parts firsts rs =
    record { id = []; types = replicate 14 90; fields = zeros; vertices = map vertex_from firsts; arcs = rs }

-- a record of length 5 with this tip, value and next
abbrev pub to : ℕ → Util → Option ArcNo → ArcPart
to v value next = record { tip = To (record { 0 = v }); len = pos 5; fields = Int (pos 0) ∷ value ∷ []; next = next }

-- its arc: the number 0 is stored as Zero
abbrev pub arc : ℕ → Util → Option ArcOf
arc v value = Some (record { tip = To (record { 0 = v }); len = pos 5; fields = Zero ∷ value ∷ [] })

abbrev pub vertex : List ℕ → VertexOf
vertex ks = record { label = 97 ∷ []; fields = zeros; arcs = ks }

-- the graph of these lists and entries
abbrev pub graph : List (List ℕ) → List (Option ArcOf) → GraphOf
graph lists entries =
    record { id = []; types = replicate 14 90; fields = zeros; vertices = map vertex lists; entries = entries }
