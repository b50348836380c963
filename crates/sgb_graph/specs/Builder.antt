-- Graphs built by insertions.
use Rattle.std.specs.Prelude.{◌≡◌, ◌⊎◌, ◌<◌, ℕ, ℤ, List, Bool, true, false, fold, Result, Ok, Err}
use Rattle.sgb_graph.specs.declared.builder.Builder.{Builder}
use Rattle.sgb_graph.specs.declared.refusal.Refusal.{Refusal}
use Rattle.sgb_graph.specs.declared.refusal.Refusal.TheVariants.{NoRoom, TooLarge}
use Rattle.sgb_graph.specs.declared.spoke.Spoke.{Spoke}
use Rattle.sgb_graph.specs.Graph.{GraphOf, made_of}
use Rattle.sgb_graph.specs.Edit.{with_arc, with_edge}

-- an arc from one vertex to another, or an edge between them
pub record Insertion : Type 0 where
  pub from : ℕ
  pub to : ℕ
  pub len : ℤ

abbrev pub insertion : ℕ → ℕ → ℤ → Insertion
insertion from to len = record { from = from; to = to; len = len }

-- from one vertex along a spoke
abbrev pub along : ℕ → Spoke → Insertion
along from s = insertion from s.to s.len

unfoldable pub inserted : Bool → GraphOf → Insertion → GraphOf
inserted true g e = with_arc g e.from e.to e.len
inserted false g e = with_edge g e.from e.to e.len

-- the graph after the insertions, in their order
unfoldable pub with_all : Bool → GraphOf → List Insertion → GraphOf
with_all directed g es = fold (inserted directed) g es

unfoldable pub grown : Builder → List Insertion → Builder
grown b es = record { graph = with_all b.directed b.graph es; directed = b.directed }

-- the insertions give out more numbers than a graph has
abbrev pub IsTooMany : Builder → List Insertion → Type 0
IsTooMany b es = 1000000 < made_of (grown b es).graph

-- the insertions are made, or refused for want of memory or because they are too many
abbrev pub Inserts : {T : Type 0} → Builder → Builder → List Insertion → Result T Refusal → Type 0
Inserts old new es (Ok x) = new ≡ grown old es
Inserts old new es (Err e) = (e ≡ NoRoom) ⊎ ((e ≡ TooLarge) × IsTooMany old es)
