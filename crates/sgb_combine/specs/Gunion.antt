-- Unions: the arcs of two graphs, between the vertices of the first.
use Rattle.std.specs.Prelude.{ℕ, List, [], ◌∷◌, ◌++◌, map, codes, Bool, ◌&&◌, nat_lt, Result, if◌then◌else◌}
use Rattle.std.specs.List.{flat_map, filter, range_with_len}
use Rattle.sgb_graph.specs.declared.refusal.Refusal.{Refusal}
use Rattle.sgb_graph.specs.Graph.{GraphOf, n_of}
use Rattle.sgb_graph.specs.Builder.{along, Insertion}
use Rattle.sgb_graph.specs.declared.spoke.Spoke.{Spoke}
use Rattle.sgb_graph.specs.Operand.{spokes}
use Rattle.sgb_plan.specs.Id.{id_of_two, flag_text}
use Rattle.sgb_plan.specs.Plan.{Plan, plan_unless, no_letters}
use Rattle.sgb_combine.specs.declared.spec.GunionSpec.{GunionSpec}
use Rattle.sgb_combine.specs.Combined.{refusal_of_operands, vertices_of, is_upward}
use Rattle.sgb_combine.specs.Lowest.{lowest}

-- it leads to one of n vertices, and not below v where the union has edges
abbrev pub is_candidate : Bool → ℕ → ℕ → Spoke → Bool
is_candidate directed n v s = nat_lt s.to n && is_upward directed v s

-- the arcs of v in g and then in h, which may have no such vertex
unfoldable pub candidates : Bool → GraphOf → GraphOf → ℕ → List Spoke
candidates directed g h v = filter (is_candidate directed (n_of g) v) (spokes directed g v ++ spokes directed h v)

-- without multi each vertex is joined once, by the least length
abbrev pub run_of : Bool → List Spoke → List Spoke
run_of multi ss = if multi then ss else lowest ss

unfoldable pub union_at : GunionSpec → GraphOf → GraphOf → ℕ → List Insertion
union_at spec g h v = map (along v) (run_of spec.multi (candidates spec.directed g h v))

abbrev pub gunion_plan : GraphOf → GraphOf → GunionSpec → Plan
gunion_plan g h spec = record {
  id = id_of_two (codes "gunion") g.id h.id (flag_text spec.multi ∷ flag_text spec.directed ∷ []);
  types = no_letters;
  vertices = vertices_of g;
  directed = spec.directed;
  insertions = flat_map (union_at spec g h) (range_with_len 0 (n_of g));
}

abbrev pub plan_of_gunion : GraphOf → GraphOf → GunionSpec → Result Plan Refusal
plan_of_gunion g h spec = plan_unless (refusal_of_operands g h) (gunion_plan g h spec)
