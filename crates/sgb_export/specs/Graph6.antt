-- Graphs in graph6: the size, and for each two vertices a bit that says whether an edge joins them, six bits a byte.
use Rattle.std.specs.Prelude.{◌==◌, ◌+◌, ◌*◌, ◌/◌, ◌%◌, ℕ, List, [], ◌∷◌, ◌++◌, codes, map, Bool, false, ◌&&◌, nat_le, slice_index_or, if◌then◌else◌}
use Rattle.std.specs.List.{flat_map, list_any, range_with_len}
use Rattle.sgb_graph.specs.Graph.{GraphOf, n_of}
use Rattle.sgb_export.specs.declared.link.Link.{Link}
use Rattle.sgb_export.specs.Links.{links}

-- the size in one byte, or in ~ and three bytes of six bits each, most significant first
abbrev pub size_bytes : ℕ → List ℕ
size_bytes n = if nat_le n 62 then (63 + n) ∷ [] else 126 ∷ (63 + n / 4096) ∷ (63 + n / 64 % 64) ∷ (63 + n % 64) ∷ []

-- for i = 0, 1, .. below j whether i and j are joined
abbrev pub column : (ℕ → ℕ → Bool) → ℕ → List Bool
column joined j = map (λ i. joined i j) (range_with_len 0 j)

-- the upper triangle of the matrix, column by column
unfoldable pub triangle : ℕ → (ℕ → ℕ → Bool) → List Bool
triangle n joined = flat_map (column joined) (range_with_len 0 n)

abbrev pub digit : Bool → ℕ
digit b = if b then 1 else 0

-- six bits, most significant first
abbrev pub six_bits : Bool → Bool → Bool → Bool → Bool → Bool → ℕ
six_bits a b c d e f = 63 + 32 * digit a + 16 * digit b + 8 * digit c + 4 * digit d + 2 * digit e + digit f

-- a byte for every six bits; zeros stand behind the last bits
unfoldable pub packed : List Bool → List ℕ
packed [] = []
packed (a ∷ (b ∷ (c ∷ (d ∷ (e ∷ (f ∷ bits)))))) = six_bits a b c d e f ∷ packed bits
packed bits =
    let bit : ℕ → Bool = λ k. slice_index_or bits k false in
    six_bits (bit 0) (bit 1) (bit 2) (bit 3) (bit 4) (bit 5) ∷ []

-- the line of n vertices, of which some are joined
unfoldable pub graph6_line : ℕ → (ℕ → ℕ → Bool) → List ℕ
graph6_line n joined = size_bytes n ++ (packed (triangle n joined) ++ codes "\n")

-- an edge is written from its lower endpoint
abbrev pub joins : ℕ → ℕ → Link → Bool
joins i j l = (l.from == i) && (l.to == j)

-- some edge joins i and j, where i is the lower
unfoldable pub is_joined : GraphOf → ℕ → ℕ → Bool
is_joined g i j = list_any (joins i j) (links false g)

unfoldable pub graph6_text : GraphOf → List ℕ
graph6_text g = graph6_line (n_of g) (is_joined g)
