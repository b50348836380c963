-- The vectors of a piece: whole numbers whose squares have a given sum.
use Rattle.std.specs.Prelude.{◌+◌, ◌*◌, ◌==◌, ℕ, zero, suc, ℤ, pos, negsuc, List, [], ◌∷◌, map, replicate, Bool, true, false}
use Rattle.std.specs.List.{flat_map, filter, range_with_len, sum_by}
use Rattle.sgb_make.specs.Choice.{choices}

-- the sum of the squares
abbrev pub squares : List ℕ → ℕ
squares = sum_by (λ a. a * a)

-- the absolute values of d parts whose squares sum to this, in lexicographic order
abbrev pub absolutes : ℕ → ℕ → List (List ℕ)
absolutes d total = filter (λ parts. squares parts == total) (choices (replicate d (range_with_len 0 (total + 1))))

-- a part of this absolute value: plus comes before minus
abbrev pub signed : ℕ → List ℤ
signed zero = pos 0 ∷ []
signed (suc a) = pos (suc a) ∷ negsuc a ∷ []

-- the first part other than 0 is positive
unfoldable pub is_forward : List ℤ → Bool
is_forward [] = true
is_forward (pos zero ∷ v) = is_forward v
is_forward (pos (suc a) ∷ v) = true
is_forward (negsuc a ∷ v) = false

-- the vectors of these absolute values, and all vectors: by their absolute values, and then by their signs
unfoldable pub vectors_of : List ℕ → List (List ℤ)
vectors_of parts = filter is_forward (choices (map signed parts))

unfoldable pub vectors : ℕ → ℕ → List (List ℤ)
vectors d total = flat_map vectors_of (absolutes d total)
