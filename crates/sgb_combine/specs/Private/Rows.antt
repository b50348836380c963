-- The spokes of all vertices, one row after another.
use Rattle.std.specs.Prelude.{◌≡◌, ◌≤◌, ◌<◌, ◌+◌, ℕ, List, length, slice_index, Bool}
use Rattle.std.specs.List.{filter, slice_range}
use Rattle.sgb_graph.specs.Graph.{GraphOf}
use Rattle.sgb_graph.specs.declared.spoke.Spoke.{Spoke}
use Rattle.sgb_graph.specs.Operand.{spokes}
use Rattle.sgb_combine.specs.Combined.{is_upward}

-- the row stands from a to b
pub record IsCut (ss items : List Spoke) (a b : ℕ) : Type 0 where
  pub low : a ≤ b
  pub high : b ≤ length items
  pub row : slice_range items a b ≡ ss

-- the rows of n vertices, where each begins, and where the last one ends
pub record AreRows (f : ℕ → List Spoke) (n : ℕ) (items : List Spoke) (starts : List ℕ) : Type 0 where
  pub count : length starts ≡ n + 1
  pub last : slice_index starts n ≡ length items
  pub cut : (v : ℕ) → v < n → IsCut (f v) items (slice_index starts v) (slice_index starts (v + 1))

-- the spokes of v, or those that do not lead below it
unfoldable pub row_of : Bool → Bool → GraphOf → ℕ → List Spoke
row_of all directed g v = filter (is_upward all v) (spokes directed g v)
