-- The graph of binary trees and their rotations.
use Rattle.std.specs.Prelude.{◌==◌, ◌&&◌, ◌||◌, ℕ, pos, unsigned_abs, int_le, nat_lt, List, [], ◌∷◌, map, codes, decimal, Bool, Result, Ok, Err, if◌then◌else◌}
use Rattle.sgb_graph.specs.declared.refusal.Refusal.{Refusal}
use Rattle.sgb_graph.specs.declared.refusal.Refusal.TheVariants.{BadSpecs}
use Rattle.sgb_graph.specs.New.{six_zeros}
use Rattle.sgb_plan.specs.Id.{id_of, flag_text}
use Rattle.sgb_plan.specs.Plan.{Named, Plan, no_letters}
use Rattle.sgb_binary.specs.declared.spec.BinarySpec.{BinarySpec}
use Rattle.sgb_binary.specs.Tree.{trees}
use Rattle.sgb_binary.specs.Rotation.{rotations}

-- a vertex is named by its tree
abbrev pub tree_vertex : List ℕ → Named
tree_vertex w = record { label = w; fields = six_zeros }

-- the rotations among the trees with n dots and at most this height
abbrev pub binary_plan : ℕ → ℕ → Bool → Plan
binary_plan n most directed = record {
  id = id_of (codes "binary") (decimal n ∷ decimal most ∷ flag_text directed ∷ []);
  types = no_letters;
  vertices = map tree_vertex (trees n most);
  directed = directed;
  insertions = rotations (trees n most);
}

-- from 0 to 100 dots, and no height below 0
abbrev pub is_binary : BinarySpec → Bool
is_binary spec = int_le (pos 0) spec.n && int_le spec.n (pos 100) && int_le (pos 0) spec.max_height

-- a height of 0, or above n, is n
abbrev pub height_within : ℕ → ℕ → ℕ
height_within n height = if height == 0 || nat_lt n height then n else height

abbrev pub plan_of_binary : BinarySpec → Result Plan Refusal
plan_of_binary spec =
    let n : ℕ = unsigned_abs spec.n in
    if is_binary spec then Ok (binary_plan n (height_within n (unsigned_abs spec.max_height)) spec.directed)
    else Err BadSpecs
