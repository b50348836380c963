-- Which arcs draw a length, and which lengths they draw.
use Rattle.std.specs.Prelude.{◌+◌, ◌-◌, ◌==◌, ◌||◌, ℕ, zero, suc, ℤ, pos, List, [], ◌∷◌, ◌++◌, length, map, filter, flat_map, Bool, nat_lt, nat_le, slice_index_or, if◌then◌else◌}
use Rattle.std.specs.List.{position_or_len, range_with_len}
use Rattle.sgb_flip.specs.Generator.{Generator}
use Rattle.sgb_graph.specs.Graph.{GraphOf, n_of}
use Rattle.sgb_graph.specs.Edit.{entry_at}
use Rattle.sgb_graph.specs.Paired.{walk}
use Rattle.sgb_graph.specs.Operand.{tip_number}
use Rattle.sgb_plan.specs.Length.{drawn_length}

-- an arc of v's walk draws, but where edges are meant and it leads to an earlier vertex
abbrev pub is_drawing : Bool → GraphOf → ℕ → ℕ → Bool
is_drawing directed g v k = directed || nat_le v (tip_number (entry_at g k).tip)

-- the arcs that draw, in the order in which they do
unfoldable pub drawing_at : Bool → GraphOf → ℕ → List ℕ
drawing_at directed g v = filter (is_drawing directed g v) (walk directed g v)

unfoldable pub drawing : Bool → GraphOf → List ℕ
drawing directed g = flat_map (drawing_at directed g) (range_with_len 0 (n_of g))

-- lengths that were drawn one after another, how many draws they took, and the generator after them
pub record Draws : Type 0 where
  pub lens : List ℤ
  pub draws : ℕ
  pub rest : Generator

-- one more
unfoldable pub with_one : ℤ → ℤ → Draws → Draws
with_one min max d =
    let next = drawn_length min max d.rest in
    record { lens = d.lens ++ next.len ∷ []; draws = d.draws + next.draws; rest = next.rest }

unfoldable pub drawn : ℤ → ℤ → Generator → ℕ → Draws
drawn min max w zero = record { lens = []; draws = 0; rest = w }
drawn min max w (suc k) = with_one min max (drawn min max w k)

-- the first place of the number, or the length of a list without it
abbrev pub place_in : List ℕ → ℕ → ℕ
place_in ks k = position_or_len (λ j. j == k) ks

-- the place of the draw from which arc k has its length: its own, or where edges are meant and it does not draw, that
-- of the other half of its edge, which is numbered one lower
unfoldable pub source_of : Bool → List ℕ → ℕ → ℕ
source_of directed ks k =
    if directed || nat_lt (place_in ks k) (length ks) then place_in ks k else place_in ks (k - 1)

abbrev pub chosen : Bool → List ℕ → List ℤ → ℕ → ℤ
chosen directed ks lens k = slice_index_or lens (source_of directed ks k) (pos 0)

-- the length of each of so many numbers
unfoldable pub chosen_lengths : Bool → List ℕ → List ℤ → ℕ → List ℤ
chosen_lengths directed ks lens made = map (chosen directed ks lens) (range_with_len 0 made)
