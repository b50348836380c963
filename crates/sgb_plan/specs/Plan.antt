-- Graphs as they are planned, and what comes of a plan.
use Rattle.std.specs.Prelude.{◌≡◌, ◌⊎◌, ◌<◌, ◌≤◌, ℕ, List, ◌++◌, length, map, replicate, Option, Some, None, Bool, ◌||◌, nat_lt, Result, Ok, Err, if◌then◌else◌}
use Rattle.sgb_graph.specs.declared.builder.Builder.{Builder}
use Rattle.sgb_graph.specs.declared.field.Util.{Util}
use Rattle.sgb_graph.specs.declared.refusal.Refusal.{Refusal}
use Rattle.sgb_graph.specs.declared.refusal.Refusal.TheVariants.{NoRoom, TooLarge}
use Rattle.sgb_graph.specs.Graph.{GraphOf, VertexOf, n_of, made_of}
use Rattle.sgb_graph.specs.New.{bare_graph}
use Rattle.sgb_graph.specs.Vertex.{new_vertex}
use Rattle.sgb_graph.specs.Builder.{Insertion, with_all}

-- a vertex of a plan: its label, and its six fields
pub record Named : Type 0 where
  pub label : List ℕ
  pub fields : List Util

-- a graph as it is planned: what its vertices are, and which arcs or edges are inserted between them, in this order
pub record Plan : Type 0 where
  pub id : List ℕ
  pub types : List ℕ
  pub vertices : List Named
  pub directed : Bool
  pub insertions : List Insertion

abbrev pub vertex_of : Named → VertexOf
vertex_of v = new_vertex v.label v.fields

-- the graph of the plan
unfoldable pub graph_of_plan : Plan → GraphOf
graph_of_plan p = with_all p.directed (bare_graph p.id p.types (map vertex_of p.vertices)) p.insertions

-- it has more than 65,535 vertices, or gives out more than 1,000,000 numbers
abbrev pub is_too_large : Plan → Bool
is_too_large p = nat_lt 65535 (length p.vertices) || nat_lt 1000000 (made_of (graph_of_plan p))

-- the letters of a graph whose fields are not used: all Z
abbrev pub no_letters : List ℕ
no_letters = replicate 14 90

-- the plan, where nothing refuses it before it is made
abbrev pub plan_unless : Option Refusal → Plan → Result Plan Refusal
plan_unless None p = Ok p
plan_unless (Some r) p = Err r

-- what comes of a plan, or of the refusal of one: its graph, or the first refusal
unfoldable pub outcome_of : Result Plan Refusal → Result GraphOf Refusal
outcome_of (Ok p) = if is_too_large p then Err TooLarge else Ok (graph_of_plan p)
outcome_of (Err r) = Err r

-- where making it may allocate: there is a plan, and its vertices are not too many. What is refused before that is judged
-- without memory, so a failed allocation never takes the place of such a refusal.
abbrev pub MayAllocate : Result Plan Refusal → Type 0
MayAllocate (Ok p) = length p.vertices ≤ 65535
MayAllocate (Err r) = ⊥

-- the outcome is answered, unless memory is wanting
abbrev pub IsMade : Result Plan Refusal → Result GraphOf Refusal → Type 0
IsMade plan (Ok g) = outcome_of plan ≡ Ok g
IsMade plan (Err e) = (e ≡ NoRoom) ⊎ (outcome_of plan ≡ Err e)

-- a builder with these vertices behind its own
unfoldable pub with_named : Builder → List Named → Builder
with_named b vs = record b { graph = record (b.graph) { vertices = b.graph.vertices ++ map vertex_of vs } }

-- the vertices are made, or refused for want of memory or because they are too many
abbrev pub Names : {T : Type 0} → Builder → Builder → List Named → Result T Refusal → Type 0
Names old new vs (Ok x) = new ≡ with_named old vs
Names old new vs (Err e) = (e ≡ NoRoom) ⊎ ((e ≡ TooLarge) × (65535 < n_of (with_named old vs).graph))
