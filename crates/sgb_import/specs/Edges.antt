-- Lists of edges: a line for each edge or arc, and comments, of which the first may announce the graph.
use Rattle.std.specs.Prelude.{◌≡◌, ◌<◌, ◌+◌, ◌==◌, ◌&&◌, ◌||◌, ℕ, ℤ, pos, List, [], ◌∷◌, ◌++◌, map, length, take, codes, max, fold, filter, find, filter_map, flat_map, Bool, true, false, not, nat_lt, nat_le, Option, None, Some, option_map, option_and_then, unwrap_or, slice_index, slice_index_or, if◌then◌else◌}
use Rattle.std.specs.List.{list_any, position_or_len, range_with_len}
use Rattle.std.specs.Option.{option_or, option_map_or}
use Rattle.std.specs.Str.{bytes_eq}
use Rattle.sgb_graph.specs.Builder.{Insertion, insertion}
use Rattle.sgb_graph.specs.Sound.{is_text, is_id}
use Rattle.sgb_import.specs.declared.edges_header.Header.{Header}
use Rattle.sgb_import.specs.declared.refusal.ImportRefusal.{ImportRefusal}
use Rattle.sgb_import.specs.declared.refusal.TextFault.{TextFault}
use Rattle.sgb_import.specs.declared.refusal.TextFault.TheVariants.{NotAnEdge, NoSuchVertex, NotDirected, WrongEdges, WrongVertices, TooManyVertices, TooManyArcs, BadId, BadName}
use Rattle.sgb_import.specs.declared.source.EdgeList.{EdgeList}
use Rattle.sgb_import.specs.Lines.{LineOf, lines, words, has_words, behind}
use Rattle.sgb_import.specs.Numbers.{natural_of, length_of}
use Rattle.sgb_import.specs.Outline.{Outline, numbered, arcs_of_links}
use Rattle.sgb_import.specs.Refusal.{fault_unless, at_line, first_some}

-- ---- lines
-- the first word of a comment begins with #
abbrev pub is_comment : LineOf → Bool
is_comment l = slice_index (slice_index_or (words l.bytes) 0 []) 0 == 35

abbrev pub is_edge : LineOf → Bool
is_edge l = has_words l && not (is_comment l)

-- an edge or an arc, with the words of its endpoints
pub record Ends : Type 0 where
  pub from : List ℕ
  pub to : List ℕ
  pub len : ℤ

-- U V LEN, or U V of length 1
unfoldable pub ends_of : List (List ℕ) → Option Ends
ends_of [] = None
ends_of (u ∷ []) = None
ends_of (u ∷ (v ∷ [])) = Some (record { from = u; to = v; len = pos 1 })
ends_of (u ∷ (v ∷ (w ∷ []))) = option_map (λ z. record { from = u; to = v; len = z }) (length_of w)
ends_of (u ∷ (v ∷ (w ∷ (x ∷ more)))) = None

abbrev pub edge_of : LineOf → Option Ends
edge_of l = if is_edge l then ends_of (words l.bytes) else None

unfoldable pub edges_in : List LineOf → List Ends
edges_in ls = filter_map edge_of ls

-- the words of their endpoints, in order
abbrev pub end_words : List Ends → List (List ℕ)
end_words = flat_map (λ e. e.from ∷ e.to ∷ [])

-- ---- the header: `# graph N M` or `# digraph N M`
abbrev pub kind_of : List ℕ → Option Bool
kind_of w = if bytes_eq w (codes "graph") then Some false else (if bytes_eq w (codes "digraph") then Some true else None)

abbrev pub header_with : ℕ → Option Bool → Option ℕ → Option ℕ → Option Header
header_with line (Some directed) (Some n) (Some m) = Some (record { line = line; directed = directed; vertices = n; edges = m })
header_with line _ _ _ = None

unfoldable pub header_of_words : ℕ → List (List ℕ) → Option Header
header_of_words line (hash ∷ (kind ∷ (n ∷ (m ∷ [])))) =
    if bytes_eq hash (codes "#") then header_with line (kind_of kind) (natural_of n) (natural_of m) else None
header_of_words line _ = None

-- the first comment is the header, or there is none
unfoldable pub header_of : List LineOf → Option Header
header_of ls = option_and_then (λ l. header_of_words l.number (words l.bytes)) (find is_comment ls)

abbrev pub directed_by : EdgeList → Option Header → Bool
directed_by list header = option_map_or (λ (h : Header). h.directed) header list.directed

-- ---- the id: `# id "ID"`
abbrev pub before_quote : List ℕ → Option (List ℕ)
before_quote [] = None
before_quote (b ∷ []) = if b == 34 then Some [] else None
before_quote (b ∷ (c ∷ cs)) = option_map (λ t. b ∷ t) (before_quote (c ∷ cs))

-- the id that the line says, in place of its bytes
unfoldable pub id_in : LineOf → Option LineOf
id_in l = option_map (λ id. record l { bytes = id }) (option_and_then before_quote (behind (codes "# id \"") l.bytes))

-- the first line that says one
unfoldable pub id_line : List LineOf → Option LineOf
id_line ls = first_some (map id_in ls)

abbrev pub id_of : Option LineOf → List ℕ
id_of line = option_map_or (λ (l : LineOf). l.bytes) line (codes "import(edges)")

-- ---- names
abbrev pub word_at : List (List ℕ) → ℕ → List ℕ
word_at ws i = slice_index_or ws i []

-- the words at the places before which they do not stand
unfoldable pub first_ones : List (List ℕ) → List (List ℕ)
first_ones ws = map (word_at ws) (filter (λ i. not (list_any (bytes_eq (word_at ws i)) (take i ws))) (range_with_len 0 (length ws)))

-- ---- faults
-- how many vertices there may be, and what more are
abbrev pub most_vertices : Option Header → ℕ
most_vertices header = option_map_or (λ (h : Header). h.vertices) header 65535

abbrev pub unless_header : Option Header → TextFault → TextFault
unless_header header fault = option_map_or (λ (h : Header). fault) header TooManyVertices

abbrev pub number_fault : Option Header → Option ℕ → Option TextFault
number_fault header None = Some NotAnEdge
number_fault header (Some v) = fault_unless (nat_lt v (most_vertices header)) (unless_header header NoSuchVertex) None

-- the fault of an endpoint
unfoldable pub end_fault : EdgeList → Option Header → List ℕ → Option TextFault
end_fault list header w = if list.names then fault_unless (is_text w) BadName None else number_fault header (natural_of w)

-- there are more names than vertices, or too many arcs
unfoldable pub count_fault : EdgeList → Option Header → List Ends → Option TextFault
count_fault list header es =
    fault_unless (not list.names || nat_le (length (first_ones (end_words es))) (most_vertices header)) (unless_header header WrongVertices)
    (fault_unless (nat_le (arcs_of_links (directed_by list header) (length es)) 1000000) TooManyArcs None)

-- the first fault of an edge behind others
abbrev pub edge_fault : EdgeList → Option Header → List Ends → Option Ends → Option TextFault
edge_fault list header before None = Some NotAnEdge
edge_fault list header before (Some e) =
    option_or (end_fault list header e.from) (option_or (end_fault list header e.to) (count_fault list header (before ++ e ∷ [])))

-- the first fault of a line behind others
unfoldable pub fault_behind : EdgeList → Option Header → List LineOf → LineOf → Option TextFault
fault_behind list header before l = if is_edge l then edge_fault list header (edges_in before) (ends_of (words l.bytes)) else None

abbrev pub no_line : LineOf
no_line = record { number = 0; bytes = [] }

abbrev pub line_at : List LineOf → ℕ → LineOf
line_at ls i = slice_index_or ls i no_line

-- the first fault of line i
abbrev pub line_fault : EdgeList → Option Header → List LineOf → ℕ → Option ImportRefusal
line_fault list header ls i = at_line (line_at ls i).number (fault_behind list header (take i ls) (line_at ls i))

abbrev pub first_line_fault : EdgeList → Option Header → List LineOf → Option ImportRefusal
first_line_fault list header ls = first_some (map (line_fault list header ls) (range_with_len 0 (length ls)))

-- edges are announced where arcs are asked for, or too many vertices
abbrev pub header_fault : EdgeList → Option Header → Option ImportRefusal
header_fault list None = None
header_fault list (Some h) =
    at_line h.line (fault_unless (not list.directed || h.directed) NotDirected (fault_unless (nat_le h.vertices 65535) TooManyVertices None))

abbrev pub id_fault : Option LineOf → Option ImportRefusal
id_fault None = None
id_fault (Some l) = at_line l.number (fault_unless (is_id l.bytes) BadId None)

-- another number of edges was announced, or of names
abbrev pub last_fault : EdgeList → Option Header → List Ends → Option ImportRefusal
last_fault list None es = None
last_fault list (Some h) es =
    at_line h.line (fault_unless (length es == h.edges) WrongEdges
    (fault_unless (not list.names || (length (first_ones (end_words es)) == h.vertices)) WrongVertices None))

unfoldable pub refusal_of_edges : EdgeList → List ℕ → Option ImportRefusal
refusal_of_edges list text =
    let ls = lines text in
    let header = header_of ls in
    option_or (header_fault list header)
    (option_or (id_fault (id_line ls))
    (option_or (first_line_fault list header ls)
    (last_fault list header (edges_in ls))))

-- reading may allocate: the header and the id are in order, and a line has an edge
pub record MayGather (list : EdgeList) (ls : List LineOf) : Type 0 where
  pub header : header_fault list (header_of ls) ≡ None
  pub id : id_fault (id_line ls) ≡ None
  pub edges : 0 < length (edges_in ls)

-- ---- the graph
-- the greatest number and one, or none
abbrev pub count_of_numbers : List (List ℕ) → ℕ
count_of_numbers = fold (λ n w. max n (unwrap_or (natural_of w) 0 + 1)) 0

-- how the vertices are named
unfoldable pub names_of : EdgeList → Option Header → List Ends → List (List ℕ)
names_of list header es =
    if list.names then first_ones (end_words es)
    else numbered 0 (option_map_or (λ (h : Header). h.vertices) header (count_of_numbers (end_words es)))

-- the vertex that a word is: the place of its name, or its number
abbrev pub vertex_no : EdgeList → List (List ℕ) → List ℕ → ℕ
vertex_no list names w = if list.names then position_or_len (bytes_eq w) names else unwrap_or (natural_of w) 0

abbrev pub link_of : EdgeList → List (List ℕ) → Ends → Insertion
link_of list names e = insertion (vertex_no list names e.from) (vertex_no list names e.to) e.len

unfoldable pub outline_of_edges : EdgeList → List ℕ → Outline
outline_of_edges list text =
    let ls = lines text in
    let header = header_of ls in
    let es = edges_in ls in
    let names = names_of list header es in
    record { id = id_of (id_line ls); names = names; directed = directed_by list header; links = map (link_of list names) es }
