-- Binary trees as words: a tree is `x`, or `.` followed by two trees.
use Rattle.std.specs.Prelude.{◌+◌, ◌*◌, ◌==◌, ℕ, zero, suc, List, [], ◌∷◌, ◌++◌, map, max, nat_le, Option, None, Some, Bool, true, false, if◌then◌else◌}
use Rattle.std.specs.List.{filter}
use Rattle.std.specs.Option.{option_map, option_and_then}

-- all words of so many letters, each of them `.` or `x`, in the order of the bytes
unfoldable pub words : ℕ → List (List ℕ)
words zero = [] ∷ []
words (suc m) = map (λ w. 46 ∷ w) (words m) ++ map (λ w. 120 ∷ w) (words m)

-- the heights of trees in a row where a `.` stands before them: the first two become one tree
abbrev pub joined : List ℕ → Option (List ℕ)
joined [] = None
joined (a ∷ []) = None
joined (a ∷ (b ∷ hs)) = Some ((1 + max a b) ∷ hs)

-- the heights of the trees that the word is a row of, or None where it is no row of trees
unfoldable pub heights : List ℕ → Option (List ℕ)
heights [] = Some []
heights (c ∷ w) = if c == 46 then option_and_then joined (heights w) else option_map (λ hs. 0 ∷ hs) (heights w)

-- the word is one tree
abbrev pub is_one : Option (List ℕ) → Bool
is_one None = false
is_one (Some []) = false
is_one (Some (h ∷ [])) = true
is_one (Some (h ∷ (k ∷ hs))) = false

unfoldable pub is_tree : List ℕ → Bool
is_tree w = is_one (heights w)

-- and it is of at most this height
abbrev pub is_one_low : ℕ → Option (List ℕ) → Bool
is_one_low most None = false
is_one_low most (Some []) = false
is_one_low most (Some (h ∷ [])) = nat_le h most
is_one_low most (Some (h ∷ (k ∷ hs))) = false

unfoldable pub is_low_tree : ℕ → List ℕ → Bool
is_low_tree most w = is_one_low most (heights w)

-- the trees with n dots, which have n + 1 letters `x`, and at most this height, in the order of the bytes
unfoldable pub trees : ℕ → ℕ → List (List ℕ)
trees n most = filter (is_low_tree most) (words (2 * n + 1))
