-- A graph in graph6: a header or none, the size, and for each two vertices a bit that says whether an edge joins them.
use Rattle.std.specs.Prelude.{◌==◌, ◌+◌, ◌-◌, ◌*◌, ◌/◌, ◌%◌, nat_lt, nat_le, ℕ, pos, List, [], ◌∷◌, map, drop, take, length, codes, slice_index, Bool, false, not, ◌&&◌, Option, Some, None, if◌then◌else◌}
use Rattle.std.specs.Int.{bit_at}
use Rattle.std.specs.List.{filter, find, list_all, flat_map, fold, range_with_len, enumerate_from}
use Rattle.std.specs.Option.{option_map, option_or, unwrap_or}
use Rattle.sgb_graph.specs.Builder.{Insertion, insertion}
use Rattle.sgb_import.specs.declared.refusal.ImportRefusal.{ImportRefusal}
use Rattle.sgb_import.specs.declared.refusal.ImportRefusal.TheVariants.{At}
use Rattle.sgb_import.specs.declared.refusal.TextFault.{TextFault}
use Rattle.sgb_import.specs.declared.refusal.TextFault.TheVariants.{NotAGraph, SecondGraph, TooManyVertices, TooManyArcs}
use Rattle.sgb_import.specs.Lines.{LineOf, lines, behind}
use Rattle.sgb_import.specs.Outline.{Outline, numbered}

-- a line without the header that may stand in front
unfoldable pub without_header : List ℕ → List ℕ
without_header line = unwrap_or (behind (codes ">>graph6<<") line) line

-- a byte of six bits
abbrev pub is_six_bits : ℕ → Bool
is_six_bits b = nat_le 63 b && nat_le b 126

-- the number that bytes of six bits write, the most significant first
unfoldable pub number_in : List ℕ → ℕ
number_in bytes = fold (λ n b. 64 * n + (b - 63)) 0 bytes

-- how many ~ stand before the size
unfoldable pub tildes : List ℕ → ℕ
tildes bytes = if slice_index bytes 0 == 126 then (if slice_index bytes 1 == 126 then 2 else 1) else 0

-- where the size ends: it has one byte, behind one ~ three, and behind two six
unfoldable pub size_end : List ℕ → ℕ
size_end bytes = if tildes bytes == 0 then 1 else (if tildes bytes == 1 then 4 else 8)

-- bytes of six bits, and a size in front
unfoldable pub has_size : List ℕ → Bool
has_size bytes = list_all is_six_bits bytes && nat_le (size_end bytes) (length bytes)

-- the number of vertices
unfoldable pub size_in : List ℕ → ℕ
size_in bytes = number_in (drop (tildes bytes) (take (size_end bytes) bytes))

-- what is behind it
unfoldable pub body_in : List ℕ → List ℕ
body_in bytes = drop (size_end bytes) bytes

-- bit k is set: six bits a byte, the most significant first
unfoldable pub is_set : List ℕ → ℕ → Bool
is_set body k = bit_at (slice_index body (k / 6) - 63) (5 - k % 6) == 1

-- how many pairs of vertices there are
unfoldable pub pair_count : ℕ → ℕ
pair_count n = n * (n - 1) / 2

-- an edge for each, by columns: for j = 1, 2, .. below n those from 0, 1, .. below j to j
unfoldable pub pairs : ℕ → List Insertion
pairs n = flat_map (λ j. map (λ i. insertion i j (pos 1)) (range_with_len 0 j)) (range_with_len 0 n)

-- as many bytes as the pairs ask for, the last filled up with zeros
unfoldable pub fits : ℕ → List ℕ → Bool
fits n body =
    (length body == (pair_count n + 5) / 6)
    && list_all (λ k. not (is_set body k)) (range_with_len (pair_count n) (6 * length body - pair_count n))

-- the pairs whose bits are set
unfoldable pub edges_in : ℕ → List ℕ → List Insertion
edges_in n body = map (λ p. p.1) (filter (λ p. is_set body p.0) (enumerate_from 0 (pairs n)))

-- why the bytes behind the header are no graph
unfoldable pub fault_in : List ℕ → Option TextFault
fault_in bytes =
    if not (has_size bytes) then Some NotAGraph
    else (if nat_lt 65535 (size_in bytes) then Some TooManyVertices
    else (if not (fits (size_in bytes) (body_in bytes)) then Some NotAGraph
    else (if nat_lt 500000 (length (edges_in (size_in bytes) (body_in bytes))) then Some TooManyArcs
    else None)))

-- the bytes of the first line
abbrev pub first_bytes : List LineOf → List ℕ
first_bytes [] = []
first_bytes (l ∷ ls) = l.bytes

-- the bytes that spell the graph: the first line, but for the header
unfoldable pub graph_bytes : List ℕ → List ℕ
graph_bytes text = without_header (first_bytes (lines text))

-- the first of these lines that is not empty has a second graph
unfoldable pub second_graph : List LineOf → Option ImportRefusal
second_graph ls = option_map (λ (l : LineOf). At l.number SecondGraph) (find (λ (l : LineOf). not (length l.bytes == 0)) ls)

-- the fault of the first line, or else a second graph
unfoldable pub refusal_of_graph6 : List ℕ → Option ImportRefusal
refusal_of_graph6 text = option_or (option_map (At 1) (fault_in (graph_bytes text))) (second_graph (drop 1 (lines text)))

-- vertices that are named by their numbers, and edges of length 1
unfoldable pub outline_of_graph6 : List ℕ → Outline
outline_of_graph6 text =
    let bytes = graph_bytes text in
    record { id = codes "import(graph6)"; names = numbered 0 (size_in bytes); directed = false; links = edges_in (size_in bytes) (body_in bytes) }
