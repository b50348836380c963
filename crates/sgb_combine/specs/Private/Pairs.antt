-- The longest name of a graph's vertices.
use Rattle.std.specs.Prelude.{◌≡◌, ◌⊎◌, ◌≤◌, ◌<◌, ℕ, length}
use Rattle.sgb_graph.specs.Graph.{GraphOf, n_of, label_of}

-- of the first k vertices none has a longer name, and one has a name of this length, if that is not 0
pub record IsLongestOf (g : GraphOf) (k n : ℕ) : Type 0 where
  pub bound : (v : ℕ) → v < k → length (label_of g v) ≤ n
  pub met : (n ≡ 0) ⊎ ((v : ℕ) × (v < k) × (length (label_of g v) ≡ n))

abbrev pub IsLongest : GraphOf → ℕ → Type 0
IsLongest g n = IsLongestOf g (n_of g) n
