-- Which graph a text of another tool spells.
use Rattle.std.specs.Prelude.{◌≡◌, ◌<◌, ◌⊎◌, ℕ, List, length, Option, None}
use Rattle.sgb_graph.specs.Graph.{GraphOf}
use Rattle.sgb_import.specs.declared.refusal.ImportRefusal.{ImportRefusal}
use Rattle.sgb_import.specs.declared.source.Source.{Source}
use Rattle.sgb_import.specs.declared.source.Source.TheVariants.{Edges, Dimacs, Graph6}
use Rattle.sgb_import.specs.Lines.{lines}
use Rattle.sgb_import.specs.Outline.{Outline, graph_of_outline}
use Rattle.sgb_import.specs.Edges.{MayGather, refusal_of_edges, outline_of_edges}
use Rattle.sgb_import.specs.Dimacs.{links_in, refusal_of_dimacs, outline_of_dimacs}
use Rattle.sgb_import.specs.Graph6.{refusal_of_graph6, outline_of_graph6}

-- the first line that is at fault, and its fault
abbrev pub refusal_of_import : Source → List ℕ → Option ImportRefusal
refusal_of_import (Edges list) text = refusal_of_edges list text
refusal_of_import Dimacs text = refusal_of_dimacs text
refusal_of_import Graph6 text = refusal_of_graph6 text

-- what a text that is not refused says
abbrev pub outline_of : Source → List ℕ → Outline
outline_of (Edges list) text = outline_of_edges list text
outline_of Dimacs text = outline_of_dimacs text
outline_of Graph6 text = outline_of_graph6 text

-- the text spells this graph, and no other
abbrev pub Spells : Source → List ℕ → GraphOf → Type 0
Spells source text g = (refusal_of_import source text ≡ None) × (g ≡ graph_of_outline (outline_of source text))

-- where reading the lines may allocate: one of them has an arc or an edge
abbrev pub MayRead : Source → List ℕ → Type 0
MayRead (Edges list) text = MayGather list (lines text)
MayRead Dimacs text = 0 < length (links_in (lines text))
MayRead Graph6 text = ⊥

-- where an import may allocate: the graph is made, or lines are read before one is refused
abbrev pub MayAllocate : Source → List ℕ → Type 0
MayAllocate source text = (refusal_of_import source text ≡ None) ⊎ MayRead source text
