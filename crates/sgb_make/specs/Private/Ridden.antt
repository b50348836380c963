-- The plan of a board by its sides.
use Rattle.std.specs.Prelude.{ℕ, List, length, map, Bool}
use Rattle.std.specs.List.{flat_map}
use Rattle.sgb_graph.specs.Builder.{Insertion}
use Rattle.sgb_plan.specs.Plan.{Plan}
use Rattle.sgb_simplex.specs.Points.{point_types, point_vertex}
use Rattle.sgb_make.specs.declared.side.Side.{Side}
use Rattle.sgb_make.specs.Ride.{positions, rides_along}
use Rattle.sgb_make.specs.Vector.{vectors}

-- the insertions along all vectors of a piece
abbrev pub along_all : List Side → Bool → ℕ → List Insertion
along_all sides rides most = flat_map (rides_along sides rides) (vectors (length sides) most)

abbrev pub ridden_plan : List ℕ → List Side → Bool → ℕ → Bool → Plan
ridden_plan id sides rides most directed = record {
  id = id;
  types = point_types;
  vertices = map point_vertex (positions sides);
  directed = directed;
  insertions = along_all sides rides most;
}
