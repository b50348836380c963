-- What one pass over neighbouring words does.
use Rattle.std.specs.Prelude.{◌≡◌, ℕ, ◌+◌, ◌<◌, ◌≤◌, List, length, slice_index}

-- The `count` words from `at` on are each put together with the word as far from `from` on; the other
-- words stay.
pub record IsRun (f : ℕ → ℕ → ℕ) (at from count : ℕ) (old new : List ℕ) : Type 0 where
  pub length_is : length new ≡ length old
  pub changed : (k : ℕ) → k < count → slice_index new (at + k) ≡ f (slice_index old (at + k)) (slice_index old (from + k))
  pub below : (i : ℕ) → i < at → slice_index new i ≡ slice_index old i
  pub above : (i : ℕ) → at + count ≤ i → slice_index new i ≡ slice_index old i
