-- What a text says of a graph, and the graph that it spells.
use Rattle.std.specs.Prelude.{◌≤◌, ◌<◌, ◌*◌, ℕ, List, map, length, reverse, All, Bool, if◌then◌else◌, FitsSigned}
use Rattle.std.specs.Int.{w64}
use Rattle.std.specs.List.{range_with_len}
use Rattle.std.specs.Fmt.{decimal}
use Rattle.sgb_graph.specs.Graph.{GraphOf, IsId}
use Rattle.sgb_graph.specs.Text.{IsText}
use Rattle.sgb_graph.specs.New.{six_zeros}
use Rattle.sgb_graph.specs.Builder.{Insertion}
use Rattle.sgb_plan.specs.Plan.{Plan, Named, no_letters, graph_of_plan}

-- the id, the names of the vertices, whether arcs are meant and not edges, and the arcs or edges in the order of the text
pub record Outline : Type 0 where
  pub id : List ℕ
  pub names : List (List ℕ)
  pub directed : Bool
  pub links : List Insertion

abbrev pub named : List ℕ → Named
named name = record { label = name; fields = six_zeros }

-- they are inserted last first, so that each vertex lists them in the order of the text
abbrev pub plan_of : Outline → Plan
plan_of o = record { id = o.id; types = no_letters; vertices = map named o.names; directed = o.directed; insertions = reverse o.links }

unfoldable pub graph_of_outline : Outline → GraphOf
graph_of_outline o = graph_of_plan (plan_of o)

-- vertices that are named by their numbers, from `first` on
abbrev pub numbered : ℕ → ℕ → List (List ℕ)
numbered first n = map decimal (range_with_len first n)

-- how many arcs so many links are
abbrev pub arcs_of_links : Bool → ℕ → ℕ
arcs_of_links directed m = if directed then m else 2 * m

-- a link between vertices that are there, of a length of 64 bits
pub record IsLink (n : ℕ) (e : Insertion) : Type 0 where
  pub from : e.from < n
  pub to : e.to < n
  pub len : FitsSigned w64 e.len

-- an outline of which a graph can be made
pub record IsOutline (o : Outline) : Type 0 where
  pub id : IsId o.id
  pub names : All IsText o.names
  pub few_vertices : length o.names ≤ 65535
  pub links : All (IsLink (length o.names)) o.links
  pub few_arcs : arcs_of_links o.directed (length o.links) ≤ 1000000
