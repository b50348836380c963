-- Rotations: where a subtree `..abc` begins in a tree, `.a.bc` in its place.
use Rattle.std.specs.Prelude.{◌+◌, ◌==◌, ℕ, pos, List, [], ◌∷◌, ◌++◌, length, map, take, drop, codes, slice_index_or, position, if◌then◌else◌}
use Rattle.std.specs.List.{flat_map, filter, range_with_len, starts_with}
use Rattle.std.specs.Option.{option_to_list}
use Rattle.std.specs.Cmp.Lexicographic.{pointwise}
use Rattle.sgb_graph.specs.Builder.{Insertion, insertion}
use Rattle.sgb_binary.specs.Tree.{is_tree}

-- of how many letters the word's fronts are that are trees; there is one at most
unfoldable pub tree_fronts : List ℕ → List ℕ
tree_fronts w = filter (λ k. is_tree (take k w)) (range_with_len 0 (length w + 1))

-- the word, where the dot at place i + 1 goes behind the k letters that follow it
abbrev pub turned : List ℕ → ℕ → ℕ → List ℕ
turned w i k = take (i + 1) w ++ (take k (drop (i + 2) w) ++ (46 ∷ drop k (drop (i + 2) w)))

-- `..abc` begins at place i where two dots stand there; a is the front of what follows that is a tree
unfoldable pub turned_at : List ℕ → ℕ → List (List ℕ)
turned_at w i =
    if starts_with ◌==◌ (drop i w) (codes "..") then map (turned w i) (tree_fronts (drop (i + 2) w))
    else []

-- the number of the word among these, where it is one of them
abbrev pub number_in : List (List ℕ) → List ℕ → List ℕ
number_in ws w = option_to_list (position (pointwise ◌==◌ w) ws)

-- the numbers of the words that w turns into at place i
abbrev pub targets : List (List ℕ) → List ℕ → ℕ → List ℕ
targets ws w i = flat_map (number_in ws) (turned_at w i)

-- from the vertex v with this name to each vertex that it turns into, by the places of its name from the left
abbrev pub rotations_at : List (List ℕ) → ℕ → List ℕ → ℕ → List Insertion
rotations_at ws v w i = map (λ k. insertion v k (pos 1)) (targets ws w i)

abbrev pub rotations_of : List (List ℕ) → ℕ → List ℕ → List Insertion
rotations_of ws v w = flat_map (rotations_at ws v w) (range_with_len 0 (length w))

abbrev pub rotations_from : List (List ℕ) → ℕ → List Insertion
rotations_from ws v = rotations_of ws v (slice_index_or ws v [])

-- from each of the words in order
abbrev pub rotations : List (List ℕ) → List Insertion
rotations ws = flat_map (rotations_from ws) (range_with_len 0 (length ws))
