-- Binary trees as they are built, beside their words.
use Rattle.std.specs.Prelude.{◌+◌, ℕ, List, [], ◌∷◌, ◌++◌, max}

pub data Tree : Type 0 where
  Leaf : Tree
  Node : Tree → Tree → Tree

-- `x`, or `.` followed by two trees
abbrev pub text : Tree → List ℕ
text Leaf = 120 ∷ []
text (Node a b) = 46 ∷ (text a ++ text b)

abbrev pub dots : Tree → ℕ
dots Leaf = 0
dots (Node a b) = 1 + dots a + dots b

abbrev pub height : Tree → ℕ
height Leaf = 0
height (Node a b) = 1 + max (height a) (height b)
