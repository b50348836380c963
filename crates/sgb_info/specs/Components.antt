-- Connected vertices, the components of a graph, and bipartite graphs.
use Rattle.std.specs.Prelude.{◌≡◌, ◌≢◌, ◌<◌, ℕ, List, length, All, Bool}
use Rattle.std.specs.List.{Any, AllPairs}
use Rattle.sgb_graph.specs.declared.field.Tip.TheVariants.{To}
use Rattle.sgb_graph.specs.Graph.{GraphOf, n_of, arcs_of}
use Rattle.sgb_graph.specs.Edit.{entry_at}

-- an arc of u's list leads to v; the list has live arcs alone
abbrev pub IsJoined : GraphOf → ℕ → ℕ → Type 0
IsJoined g u v = Any (λ k. (entry_at g k).tip ≡ To (record { 0 = v })) (arcs_of g u)

-- the smallest equivalence that contains R
pub data Closure (R : ℕ → ℕ → Type 0) : ℕ → ℕ → Type 0 where
  joined : (a b : ℕ) → R a b → Closure R a b
  same : (a : ℕ) → Closure R a a
  back : (a b : ℕ) → Closure R a b → Closure R b a
  through : (a b c : ℕ) → Closure R a b → Closure R b c → Closure R a c

-- arcs lead from one vertex to the other, whatever their directions
abbrev pub Connected : GraphOf → ℕ → ℕ → Type 0
Connected g = Closure (IsJoined g)

-- one vertex of each component
pub record IsOneOfEach (g : GraphOf) (vs : List ℕ) : Type 0 where
  pub within : All (λ v. v < n_of g) vs
  pub apart : AllPairs (λ v w. Connected g v w → ⊥) vs
  pub every : (v : ℕ) → v < n_of g → Any (Connected g v) vs

-- there are c components
abbrev pub HasComponents : GraphOf → ℕ → Type 0
HasComponents g c = (vs : List ℕ) × IsOneOfEach g vs × (length vs ≡ c)

-- the vertices can be coloured with two colours so that the ends of each arc differ
abbrev pub IsBipartite : GraphOf → Type 0
IsBipartite g = (colour : ℕ → Bool) × ((u v : ℕ) → IsJoined g u v → colour u ≢ colour v)
