-- The first tree of a word, from the left.
use Rattle.std.specs.Prelude.{◌+◌, ◌==◌, ℕ, zero, suc, List, [], ◌∷◌, Option, None, Some, if◌then◌else◌}

-- where so many trees, of which i letters are past, end in the word
unfoldable pub span_from : ℕ → ℕ → List ℕ → Option ℕ
span_from i zero w = Some i
span_from i (suc k) [] = None
span_from i (suc k) (c ∷ w) = span_from (i + 1) (if c == 46 then suc (suc k) else k) w
