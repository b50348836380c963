-- Spokes to distinct vertices, and where the one to a vertex stands.
use Rattle.std.specs.Prelude.{◌≡◌, ◌≢◌, ◌<◌, ◌==◌, ℕ, List, [], ◌∷◌, length, All, Option, Some, None, slice_index_or}
use Rattle.std.specs.List.{list_any}
use Rattle.std.specs.List.Sorted.{IsStrictlyIncreasing}
use Rattle.sgb_graph.specs.declared.spoke.Spoke.{Spoke}

-- for each spoke its place stands at the number of the vertex to which it leads
pub record IsMarked (places : List ℕ) (ss : List Spoke) : Type 0 where
  pub within : (i : ℕ) (d : Spoke) → i < length ss → (slice_index_or ss i d).to < length places
  pub place : (i : ℕ) (d : Spoke) → i < length ss → slice_index_or places (slice_index_or ss i d).to 0 ≡ i

-- this is the place of the spoke that leads to the vertex, or there is none
abbrev pub StandsAt : List Spoke → ℕ → Option ℕ → Type 0
StandsAt ss to (Some i) = (i < length ss) × ((d : Spoke) → (slice_index_or ss i d).to ≡ to)
StandsAt ss to None = All (λ s. s.to ≢ to) ss

-- the spoke that was found, alone
abbrev pub found : Option Spoke → List Spoke
found None = []
found (Some s) = s ∷ []

-- strictly rising numbers, which are the same and below the same limits as the others
pub record IsInOrder (ns ms : List ℕ) : Type 0 where
  pub rising : IsStrictlyIncreasing ms
  pub same : (w : ℕ) → list_any (λ x. x == w) ms ≡ list_any (λ x. x == w) ns
  pub below : (n : ℕ) → All (λ x. x < n) ns → All (λ x. x < n) ms
