-- Induced graphs: which vertices they have, and which arcs or edges between them.
use Rattle.std.specs.Prelude.{◌==◌, ◌||◌, ◌&&◌, ◌∷◌, [], ℕ, ℤ, List, length, map, codes, Option, None, Bool, not, nat_le, Result, if◌then◌else◌}
use Rattle.std.specs.List.{filter, flat_map, range_with_len}
use Rattle.std.specs.Option.{option_or}
use Rattle.sgb_graph.specs.declared.refusal.Refusal.{Refusal}
use Rattle.sgb_graph.specs.declared.refusal.Refusal.TheVariants.{BadSpecs, BadOperand}
use Rattle.sgb_graph.specs.Builder.{Insertion, insertion}
use Rattle.sgb_graph.specs.Edit.{refusal_unless}
use Rattle.sgb_graph.specs.Graph.{GraphOf, n_of}
use Rattle.sgb_graph.specs.declared.spoke.Spoke.{Spoke}
use Rattle.sgb_graph.specs.Operand.{refusal_of_operand, spokes}
use Rattle.sgb_plan.specs.Id.{id_of_one, flag_text}
use Rattle.sgb_plan.specs.Plan.{Plan, no_letters, plan_unless}
use Rattle.sgb_induced.specs.declared.fate.Fate.{Fate}
use Rattle.sgb_induced.specs.declared.inducing.InducedSpec.{InducedSpec}
use Rattle.sgb_induced.specs.Fate.{fates_of, have_fates}
use Rattle.sgb_induced.specs.Image.{images, named, have_names}
use Rattle.sgb_induced.specs.Least.{least}

-- without a direction only the spokes of v that lead to v or to a later vertex count
abbrev pub is_met : Bool → ℕ → Spoke → Bool
is_met directed v s = directed || nat_le v s.to

-- an insertion from x to y is made: from a vertex to itself only with loops, and an edge among the images of one
-- vertex only from the earlier to the later
abbrev pub is_wanted : Bool → Bool → Bool → ℕ → ℕ → Bool
is_wanted loops directed alone x y = (loops || not (x == y)) && (directed || (not alone || nat_le x y))

-- from each image of v to each image of w
unfoldable pub between : Bool → Bool → List Fate → ℕ → ℕ → ℤ → List Insertion
between loops directed fs v w len =
    let alone = v == w in
    flat_map (λ x. map (λ y. insertion x y len) (filter (is_wanted loops directed alone x) (images fs w))) (images fs v)

-- those that the spokes of v ask for, in their order
unfoldable pub asked_at : GraphOf → List Fate → Bool → Bool → ℕ → List Insertion
asked_at g fs loops directed v =
    flat_map (λ s. between loops directed fs v s.to s.len) (filter (is_met directed v) (spokes directed g v))

abbrev pub asked : GraphOf → List Fate → Bool → Bool → List Insertion
asked g fs loops directed = flat_map (asked_at g fs loops directed) (range_with_len 0 (n_of g))

-- all of them with multi; else one for each pair of vertices
unfoldable pub insertions : GraphOf → List Fate → Bool → Bool → Bool → List Insertion
insertions g fs loops multi directed =
    if multi then asked g fs loops directed else least directed (asked g fs loops directed)

-- what stands in the id behind the graph's id
abbrev pub words : List ℕ → InducedSpec → List (List ℕ)
words description spec = description ∷ flag_text spec.loops ∷ flag_text spec.multi ∷ flag_text spec.directed ∷ []

unfoldable pub induced_plan : GraphOf → List ℕ → InducedSpec → Plan
induced_plan g description spec = record {
  id = id_of_one (codes "induced") g.id (words description spec);
  types = no_letters;
  vertices = named g (fates_of g);
  directed = spec.directed;
  insertions = insertions g (fates_of g) spec.loops spec.multi spec.directed;
}

-- a field z does not say what becomes of its vertex, or the name of a copy is too long
abbrev pub refusal_of_fates : GraphOf → Option Refusal
refusal_of_fates g = refusal_unless (have_fates g && have_names g (fates_of g)) BadOperand None

-- the first refusal before the plan: a long description; an arc that leads to no vertex; a field z
abbrev pub refusal_of_induced : GraphOf → List ℕ → Option Refusal
refusal_of_induced g description =
    refusal_unless (nat_le (length description) 40) BadSpecs (option_or (refusal_of_operand g) (refusal_of_fates g))

abbrev pub plan_of_induced : GraphOf → List ℕ → InducedSpec → Result Plan Refusal
plan_of_induced g description spec = plan_unless (refusal_of_induced g description) (induced_plan g description spec)
