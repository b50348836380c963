-- How many points there are, as the code counts them.
use Rattle.std.specs.Prelude.{◌≡◌, ◌≤◌, ◌<◌, ◌+◌, ◌-◌, ℕ, zero, suc, List, length, get_or, drop, min}
use Rattle.std.proofs.Common.{Vec}
use Rattle.std.specs.List.{slice_index, sum}
use Rattle.std.specs.declared.alloc.Global.{Global}
use Rattle.sgb_simplex.specs.Points.{points}

-- the sum of so many values of f, from that of a on
unfoldable pub sum_from : (ℕ → ℕ) → ℕ → ℕ → ℕ
sum_from f a zero = 0
sum_from f a (suc n) = f a + sum_from f (a + 1) n

-- how many points have this sum, where 65,536 stands for more
unfoldable pub counted : List ℕ → ℕ → ℕ
counted bounds total = min 65536 (length (points total bounds))

-- how many have a sum below this one, so counted
unfoldable pub counted_below : List ℕ → ℕ → ℕ
counted_below bounds s = sum_from (counted bounds) 0 s

-- these, for the sums from 0 to total + 1
pub record IsRow (bounds : List ℕ) (total : ℕ) (row : List ℕ) : Type 0 where
  pub long : length row ≡ total + 2
  pub at : (s : ℕ) → s < total + 2 → slice_index row s ≡ counted_below bounds s

-- the point is one of those that have this sum and these bounds
pub record IsPoint (whole : ℕ) (bounds t : List ℕ) : Type 0 where
  pub long : length t ≡ length bounds
  pub within : (k : ℕ) → k < length bounds → slice_index t k ≤ slice_index bounds k
  pub total : sum t ≡ whole

-- a row for each number of coordinates from the end, beginning with none
pub record IsTable (bounds : List ℕ) (total : ℕ) (rows : List (Vec ℕ Global)) : Type 0 where
  pub long : length rows ≡ length bounds + 1
  pub at : (k : ℕ) (d : Vec ℕ Global) → k < length rows → IsRow (drop (length bounds - k) bounds) total (get_or rows k d).items
