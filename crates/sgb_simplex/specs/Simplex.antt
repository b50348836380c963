-- The graph of a simplex: each point is reached from those that have one less at a coordinate and one more at a later one.
use Rattle.std.specs.Prelude.{◌++◌, ℕ, ℤ, unsigned_abs, List, [], ◌∷◌, codes, Result}
use Rattle.sgb_graph.specs.declared.refusal.Refusal.{Refusal}
use Rattle.sgb_plan.specs.Id.{id_of, flag_text}
use Rattle.sgb_plan.specs.Plan.{Plan}
use Rattle.sgb_simplex.specs.declared.arguments.SimplexSpec.{SimplexSpec}
use Rattle.sgb_simplex.specs.Bounds.{first_of, bounds_of, points_within, plan_within, shown_parts}
use Rattle.sgb_simplex.specs.Moves.{moves}
use Rattle.sgb_simplex.specs.Points.{point_plan}

abbrev pub simplex_numbers : SimplexSpec → List ℤ
simplex_numbers s = first_of s.n0 ∷ s.n1 ∷ s.n2 ∷ s.n3 ∷ s.n4 ∷ []

abbrev pub simplex_bounds : SimplexSpec → List ℕ
simplex_bounds s = bounds_of (unsigned_abs s.n) (simplex_numbers s)

abbrev pub simplex_points : SimplexSpec → List (List ℕ)
simplex_points s = points_within s.n (simplex_numbers s)

abbrev pub simplex_id : SimplexSpec → List ℕ
simplex_id s = id_of (codes "simplex") (shown_parts s.n (simplex_numbers s) ++ flag_text s.directed ∷ [])

abbrev pub simplex_plan : SimplexSpec → Plan
simplex_plan s = point_plan (simplex_id s) s.directed (simplex_points s) (moves (simplex_points s) (simplex_bounds s))

unfoldable pub plan_of_simplex : SimplexSpec → Result Plan Refusal
plan_of_simplex s = plan_within s.n (simplex_numbers s) (simplex_plan s)
