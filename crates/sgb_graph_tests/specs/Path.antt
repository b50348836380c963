-- Paths, as a small example of a plan.
use Rattle.std.specs.Prelude.{◌+◌, ◌-◌, ◌==◌, ℕ, pos, [], ◌∷◌, map, codes, decimal, Bool, Result, Ok, Err, if◌then◌else◌}
use Rattle.std.specs.List.{range_with_len}
use Rattle.sgb_graph.specs.declared.refusal.Refusal.{Refusal}
use Rattle.sgb_graph.specs.declared.refusal.Refusal.TheVariants.{BadSpecs}
use Rattle.sgb_graph.specs.New.{six_zeros}
use Rattle.sgb_graph.specs.Builder.{Insertion, insertion}
use Rattle.sgb_plan.specs.Id.{id_of}
use Rattle.sgb_plan.specs.Name.{dotted}
use Rattle.sgb_plan.specs.Plan.{Named, Plan, no_letters}

-- a vertex is named by its number
abbrev pub path_vertex : ℕ → Named
path_vertex v = record { label = dotted (v ∷ []); fields = six_zeros }

-- a step leads to the next vertex
abbrev pub path_step : ℕ → Insertion
path_step v = insertion v (v + 1) (pos 1)

-- n vertices in a row
abbrev pub path_plan : ℕ → Bool → Plan
path_plan n directed = record {
  id = id_of (codes "path") (decimal n ∷ []);
  types = no_letters;
  vertices = map path_vertex (range_with_len 0 n);
  directed = directed;
  insertions = map path_step (range_with_len 0 (n - 1));
}

-- there is no path without a vertex
abbrev pub plan_of_path : ℕ → Bool → Result Plan Refusal
plan_of_path n directed = if n == 0 then Err BadSpecs else Ok (path_plan n directed)
