-- Complements: the pairs of vertices that a graph does not join, or with copy those that it joins.
use Rattle.std.specs.Prelude.{ℕ, pos, List, [], ◌∷◌, map, codes, Bool, true, ◌&&◌, ◌||◌, not, ◌==◌, nat_le, Result, if◌then◌else◌}
use Rattle.std.specs.List.{flat_map, filter, list_any, range_with_len}
use Rattle.sgb_graph.specs.declared.refusal.Refusal.{Refusal}
use Rattle.sgb_graph.specs.Graph.{GraphOf, n_of}
use Rattle.sgb_graph.specs.Builder.{Insertion, insertion}
use Rattle.sgb_graph.specs.declared.spoke.Spoke.{Spoke}
use Rattle.sgb_graph.specs.Operand.{refusal_of_operand, spokes}
use Rattle.sgb_plan.specs.Id.{id_of_one, flag_text}
use Rattle.sgb_plan.specs.Plan.{Plan, plan_unless, no_letters}
use Rattle.sgb_combine.specs.declared.spec.ComplementSpec.{ComplementSpec}
use Rattle.sgb_combine.specs.Combined.{vertices_of}

-- one of the spokes leads to w
abbrev pub leads_to : List Spoke → ℕ → Bool
leads_to ss w = list_any (λ s. s.to == w) ss

-- u is to be joined to w, where `joined` says if the graph joins it to w
abbrev pub is_wanted : ComplementSpec → ℕ → Bool → ℕ → Bool
is_wanted spec u joined w =
    (if spec.copy then joined else not joined) && (spec.loops || not (u == w)) && (spec.directed || nat_le u w)

-- by an arc or an edge of length 1
abbrev pub unit_step : ℕ → ℕ → Insertion
unit_step u w = insertion u w (pos 1)

-- from u to those of n vertices that are to be joined with it, in order, where u has these arcs
unfoldable pub wanted_steps : ComplementSpec → ℕ → ℕ → List Spoke → List Insertion
wanted_steps spec n u ss = map (unit_step u) (filter (λ w. is_wanted spec u (leads_to ss w) w) (range_with_len 0 n))

abbrev pub complement_at : ComplementSpec → GraphOf → ℕ → List Insertion
complement_at spec g u = wanted_steps spec (n_of g) u (spokes true g u)

abbrev pub complement_plan : GraphOf → ComplementSpec → Plan
complement_plan g spec = record {
  id = id_of_one (codes "complement") g.id (flag_text spec.copy ∷ flag_text spec.loops ∷ flag_text spec.directed ∷ []);
  types = no_letters;
  vertices = vertices_of g;
  directed = spec.directed;
  insertions = flat_map (complement_at spec g) (range_with_len 0 (n_of g));
}

abbrev pub plan_of_complement : GraphOf → ComplementSpec → Result Plan Refusal
plan_of_complement g spec = plan_unless (refusal_of_operand g) (complement_plan g spec)
