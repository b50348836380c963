-- The 55 words in two vectors of 32 lanes.
use Rattle.std.specs.Prelude.{◌≡◌, ℕ, ◌+◌, ◌-◌, ◌%◌, ◌^◌, ◌<◌, ◌≤◌, List, length, map, nat_lt, slice_index, if◌then◌else◌}
use Rattle.std.specs.List.{range_with_len}

-- Two vectors, of the first 32 words and of the last 32. Eight words stand in both alike, and nothing is
-- taken from the first lane of the second.
pub record AreHalves (low high : List ℕ) : Type 0 where
  pub low_count : length low ≡ 32
  pub high_count : length high ≡ 32
  pub alike : (k : ℕ) → 1 ≤ k → k < 9 → slice_index high k ≡ slice_index low (23 + k)

-- the words that they hold, each modulo 2 ^ 31
unfoldable pub whole : List ℕ → List ℕ → List ℕ
whole low high =
    map (λ i. (if nat_lt i 32 then slice_index low i else slice_index high (i - 23)) % 2 ^ 31) (range_with_len 0 55)
