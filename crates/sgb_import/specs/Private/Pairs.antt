-- Pairs of vertices by columns, as the reader of graph6 goes from one to the next.
use Rattle.std.specs.Prelude.{ℕ, ◌+◌, ◌*◌, ◌≡◌, ◌<◌, ◌≤◌, pos, List, map, take, length, true}
use Rattle.std.specs.List.{filter, list_all, enumerate_from}
use Rattle.sgb_graph.specs.Builder.{Insertion, insertion}
use Rattle.sgb_import.specs.declared.graph6.Pair.{Pair}
use Rattle.sgb_import.specs.declared.outline.Link.{Link}
use Rattle.sgb_import.specs.Graph6.{is_six_bits, is_set, pairs, size_in, body_in, fits, edges_in}
use Rattle.sgb_import.specs.Private.Outlined.{insertion_of}

-- the edge between them
abbrev pub edge_of : Pair → Insertion
edge_of p = insertion p.low p.high (pos 1)

-- the pair is number k
pub record IsPair (k : ℕ) (p : Pair) : Type 0 where
  pub order : p.low < p.high
  pub place : 2 * k + p.high ≡ p.high * p.high + 2 * p.low
  pub small : p.high ≤ k + 1

-- the edges of the first k pairs
unfoldable pub edges_below : ℕ → List ℕ → ℕ → List Insertion
edges_below n body k = map (λ p. p.1) (filter (λ p. is_set body p.0) (take k (enumerate_from 0 (pairs n))))

-- the edges of the first k pairs are found, and the next pair is number k
pub record AreRead (n : ℕ) (body : List ℕ) (k : ℕ) (next : Pair) (found : List Link) : Type 0 where
  pub place : IsPair k next
  pub edges : map insertion_of found ≡ edges_below n body k

-- each byte has six bits
abbrev pub AreSixBits : List ℕ → Type 0
AreSixBits bytes = list_all is_six_bits bytes ≡ true

-- bytes in which a triangle stands: their size, few enough, and a body that fits it
pub record IsTriangle (bytes : List ℕ) (n : ℕ) (body : List ℕ) : Type 0 where
  pub size : n ≡ size_in bytes
  pub body_is : body ≡ body_in bytes
  pub few : n ≤ 65535
  pub six_bits : AreSixBits body
  pub full : fits n body ≡ true
  pub few_edges : length (edges_in n body) ≤ 500000
