-- Intersections: the pairs of vertices that two graphs both join.
use Rattle.std.specs.Prelude.{ℕ, List, [], ◌∷◌, map, codes, Bool, true, ◌==◌, Result}
use Rattle.std.specs.List.{flat_map, filter, range_with_len}
use Rattle.std.specs.Int.{int_max}
use Rattle.sgb_graph.specs.declared.refusal.Refusal.{Refusal}
use Rattle.sgb_graph.specs.Graph.{GraphOf, n_of}
use Rattle.sgb_graph.specs.Builder.{along, Insertion}
use Rattle.sgb_graph.specs.declared.spoke.Spoke.{Spoke}
use Rattle.sgb_graph.specs.Operand.{spokes}
use Rattle.sgb_plan.specs.Id.{id_of_two, flag_text}
use Rattle.sgb_plan.specs.Plan.{Plan, plan_unless, no_letters}
use Rattle.sgb_combine.specs.Combined.{refusal_of_operands, vertices_of, is_upward}
use Rattle.sgb_combine.specs.Lowest.{lowest}

-- for each vertex to which v is joined, the first and least arc, where edges are not looked at from their larger end
unfoldable pub firsts : Bool → GraphOf → ℕ → List Spoke
firsts directed g v = lowest (filter (is_upward directed v) (spokes true g v))

-- the spoke, with the other's length where that is more
abbrev pub longer : Spoke → Spoke → Spoke
longer r s = record r { len = int_max r.len s.len }

-- those of the spokes that lead to w
abbrev pub leading_to : ℕ → List Spoke → List Spoke
leading_to w ss = filter (λ s. s.to == w) ss

-- from v along the spoke, where one of these leads to the same vertex, by the larger of the two lengths
abbrev pub joints : ℕ → List Spoke → Spoke → List Insertion
joints v ss r = map (λ s. along v (longer r s)) (leading_to r.to ss)

unfoldable pub intersection_at : Bool → GraphOf → GraphOf → ℕ → List Insertion
intersection_at directed g h v = flat_map (joints v (lowest (spokes true h v))) (firsts directed g v)

abbrev pub intersection_plan : GraphOf → GraphOf → Bool → Plan
intersection_plan g h directed = record {
  id = id_of_two (codes "intersection") g.id h.id (codes "0" ∷ flag_text directed ∷ []);
  types = no_letters;
  vertices = vertices_of g;
  directed = directed;
  insertions = flat_map (intersection_at directed g h) (range_with_len 0 (n_of g));
}

abbrev pub plan_of_intersection : GraphOf → GraphOf → Bool → Result Plan Refusal
plan_of_intersection g h directed = plan_unless (refusal_of_operands g h) (intersection_plan g h directed)
