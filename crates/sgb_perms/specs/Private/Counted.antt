-- How many arrangements are listed, counted as they are listed, by the lengths of the rows alone.
use Rattle.std.specs.Prelude.{◌+◌, ◌-◌, ℕ, zero, suc, min, List, [], ◌∷◌}
use Rattle.std.specs.List.{sum_by, range_with_len}

-- where so many copies of a kind go in, and `next` tells how many rows come of what is left
unfoldable pub copies_counted : ℕ → (ℕ → ℕ) → ℕ → ℕ → ℕ
copies_counted zero next right left = next left
copies_counted (suc n) next right left =
    sum_by (λ x. copies_counted n next x (left - x)) (range_with_len 0 (min right left + 1))

-- where kinds with these counts go into a row of so many elements
unfoldable pub rows_counted : List ℕ → ℕ → ℕ → ℕ
rows_counted [] long left = 1
rows_counted (c ∷ counts) long left = copies_counted c (rows_counted counts (long + c)) long left
