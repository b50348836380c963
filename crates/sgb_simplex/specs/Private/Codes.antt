-- Points as numbers, so that the overlap of two is the count of ones that they share.
use Rattle.std.specs.Prelude.{◌≡◌, ◌<◌, ◌+◌, ◌-◌, ◌*◌, ◌^◌, ℕ, List, [], ◌∷◌, length, get_or}
use Rattle.std.specs.List.{slice_index}

-- behind the bits of code: for each coordinate as many bits as its bound, and the lowest of them, as many as it is, set
unfoldable pub code_from : ℕ → List ℕ → List ℕ → ℕ
code_from code [] t = code
code_from code (b ∷ bs) [] = code
code_from code (b ∷ bs) (x ∷ t) = code_from (code * 2 ^ b + (2 ^ x - 1)) bs t

-- the codes of these points, in their order
pub record AreCodes (bounds : List ℕ) (all : List (List ℕ)) (codes : List ℕ) : Type 0 where
  pub long : length codes ≡ length all
  pub at : (v : ℕ) → v < length all → slice_index codes v ≡ code_from 0 bounds (get_or all v [])
