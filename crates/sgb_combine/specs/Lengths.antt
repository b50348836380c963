-- Graphs with other lengths: which are drawn, when they are refused, and what undoes them.
use Rattle.std.specs.Prelude.{◌≡◌, ◌≤◌, ℕ, ℤ, pos, List, ◌∷◌, [], length, map, codes, Option, Some, None, Bool, slice_index_or, if◌then◌else◌}
use Rattle.std.specs.List.{range_with_len}
use Rattle.std.specs.Option.{option_or}
use Rattle.sgb_flip.specs.Generator.{Generator}
use Rattle.sgb_graph.specs.declared.refusal.Refusal.{Refusal}
use Rattle.sgb_graph.specs.declared.refusal.Refusal.TheVariants.{BadOperand}
use Rattle.sgb_graph.specs.Edit.{refusal_unless}
use Rattle.sgb_graph.specs.Graph.{GraphOf, ArcOf, made_of, arc_at}
use Rattle.sgb_graph.specs.Paired.{is_paired}
use Rattle.sgb_graph.specs.Operand.{refusal_of_operand}
use Rattle.sgb_plan.specs.declared.part.Seed.{Seed}
use Rattle.sgb_plan.specs.declared.part.Part.TheVariants.{Number, Count, Flag, Drawn}
use Rattle.sgb_plan.specs.Id.{id_of_one, part_text}
use Rattle.sgb_plan.specs.Length.{refusal_of_range}
use Rattle.sgb_combine.specs.declared.spec.LengthsSpec.{LengthsSpec}
use Rattle.sgb_combine.specs.declared.delta.LengthsDelta.{LengthsDelta}
use Rattle.sgb_combine.specs.Drawing.{Draws, drawing, drawn, chosen_lengths}

-- the arc with this length; a hole stays one
abbrev pub with_length : Option ArcOf → ℤ → Option ArcOf
with_length None len = None
with_length (Some e) len = Some (record e { len = len })

-- the length of an arc, and 0 of a hole
abbrev pub length_of : Option ArcOf → ℤ
length_of None = pos 0
length_of (Some e) = e.len

-- arc k has the length at place k of a list
abbrev pub lengthened_at : GraphOf → List ℤ → ℕ → Option ArcOf
lengthened_at g lens k = with_length (arc_at g k) (slice_index_or lens k (pos 0))

unfoldable pub with_lengths : GraphOf → List ℤ → GraphOf
with_lengths g lens = record g { entries = map (lengthened_at g lens) (range_with_len 0 (made_of g)) }

-- the lengths by number
unfoldable pub lengths_of : GraphOf → List ℤ
lengths_of g = map (λ k. length_of (arc_at g k)) (range_with_len 0 (made_of g))

-- a tip is no vertex, or the arcs are to be edges and are not in pairs
abbrev pub refusal_of_arcs : Bool → GraphOf → Option Refusal
refusal_of_arcs directed g = if directed then refusal_of_operand g else refusal_unless (is_paired g) BadOperand None

-- the first refusal, want of memory aside
unfoldable pub refusal_of_lengths : LengthsSpec → GraphOf → Option Refusal
refusal_of_lengths spec g = option_or (refusal_of_range spec.min spec.max) (refusal_of_arcs spec.directed g)

-- as many lengths as there are arcs that draw
abbrev pub draws_for : LengthsSpec → GraphOf → Generator → Draws
draws_for spec g w = drawn spec.min spec.max w (length (drawing spec.directed g))

abbrev pub new_lengths : LengthsSpec → GraphOf → Generator → List ℤ
new_lengths spec g w =
    chosen_lengths spec.directed (drawing spec.directed g) (draws_for spec g w).lens (made_of g)

abbrev pub lengths_id : LengthsSpec → Seed → List ℕ → List ℕ
lengths_id spec seed id =
    id_of_one (codes "random_lengths") id
    (map part_text (Flag spec.directed ∷ Number spec.min ∷ Number spec.max ∷ Count 0 ∷ Drawn seed ∷ []))

-- the graph with its new lengths and its new id
unfoldable pub lengthened : LengthsSpec → Seed → GraphOf → Generator → GraphOf
lengthened spec seed g w = record (with_lengths g (new_lengths spec g w)) { id = lengths_id spec seed g.id }

-- a delta fits a graph where it has a length for each number, and an id that a graph may have
pub record CanRevertLengths (d : LengthsDelta) (g : GraphOf) : Type 0 where
  pub lengths : length d.lengths ≡ made_of g
  pub id : length d.id ≤ 160

-- the graph that a delta leads back to
unfoldable pub before_lengths : LengthsDelta → GraphOf → GraphOf
before_lengths d g = record (with_lengths g d.lengths) { id = d.id }
