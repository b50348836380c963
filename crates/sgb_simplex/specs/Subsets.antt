-- The graph of points that are joined where their overlap has one of the sizes that are asked for.
use Rattle.std.specs.Prelude.{◌++◌, ℕ, ℤ, List, [], ◌∷◌, codes, Result}
use Rattle.sgb_graph.specs.declared.refusal.Refusal.{Refusal}
use Rattle.sgb_plan.specs.Id.{id_of, hexadecimal, flag_text}
use Rattle.sgb_plan.specs.Plan.{Plan}
use Rattle.sgb_simplex.specs.declared.arguments.SubsetsSpec.{SubsetsSpec}
use Rattle.sgb_simplex.specs.Bounds.{first_of, points_within, plan_within, shown_parts}
use Rattle.sgb_simplex.specs.Overlap.{pairs}
use Rattle.sgb_simplex.specs.Points.{point_plan}

abbrev pub subsets_numbers : SubsetsSpec → List ℤ
subsets_numbers s = first_of s.n0 ∷ s.n1 ∷ s.n2 ∷ s.n3 ∷ s.n4 ∷ []

abbrev pub subsets_points : SubsetsSpec → List (List ℕ)
subsets_points s = points_within s.n (subsets_numbers s)

abbrev pub subsets_id : SubsetsSpec → List ℕ
subsets_id s = id_of (codes "subsets") (shown_parts s.n (subsets_numbers s) ++ hexadecimal s.size_bits ∷ flag_text s.directed ∷ [])

abbrev pub subsets_plan : SubsetsSpec → Plan
subsets_plan s = point_plan (subsets_id s) s.directed (subsets_points s) (pairs (subsets_points s) s.size_bits)

unfoldable pub plan_of_subsets : SubsetsSpec → Result Plan Refusal
plan_of_subsets s = plan_within s.n (subsets_numbers s) (subsets_plan s)
