-- The formats of DIMACS: shortest paths, whose lines are arcs with lengths, and edges, which have the length 1.
use Rattle.std.specs.Prelude.{◌+◌, ◌-◌, ◌==◌, ◌&&◌, ℕ, ℤ, pos, List, [], ◌∷◌, map, length, take, codes, filter_map, Bool, true, false, nat_le, Option, None, Some, option_map, option_and_then, slice_index_or, if◌then◌else◌}
use Rattle.std.specs.List.{range_with_len}
use Rattle.std.specs.Option.{option_or, option_map_or}
use Rattle.std.specs.Str.{bytes_eq}
use Rattle.sgb_graph.specs.Builder.{Insertion, insertion}
use Rattle.sgb_graph.specs.Sound.{is_id}
use Rattle.sgb_import.specs.declared.dimacs_line.Kind.{Kind}
use Rattle.sgb_import.specs.declared.dimacs_line.Kind.TheVariants.{Comment, TheProblem, AnArc, AnEdge, Other}
use Rattle.sgb_import.specs.declared.dimacs_line.Problem.{Problem}
use Rattle.sgb_import.specs.declared.refusal.ImportRefusal.{ImportRefusal}
use Rattle.sgb_import.specs.declared.refusal.TextFault.{TextFault}
use Rattle.sgb_import.specs.declared.refusal.TextFault.TheVariants.{NotALine, NotAnEdge, NotAnArc, NotAProblem, SecondProblem, NoProblem, NoSuchVertex, WrongEdges, TooManyVertices, TooManyArcs, BadId}
use Rattle.sgb_import.specs.Lines.{LineOf, lines, words, behind}
use Rattle.sgb_import.specs.Numbers.{natural_of, length_of}
use Rattle.sgb_import.specs.Outline.{Outline, numbered, arcs_of_links}
use Rattle.sgb_import.specs.Refusal.{fault_unless, at_line, first_some}

-- ---- words
-- what the first word says that a line is
abbrev pub kind_of : List ℕ → Kind
kind_of w =
    if bytes_eq w (codes "c") then Comment else (if bytes_eq w (codes "p") then TheProblem
    else (if bytes_eq w (codes "a") then AnArc else (if bytes_eq w (codes "e") then AnEdge else Other)))

-- two words and no more
abbrev pub two : List (List ℕ) → Option (List ℕ × List ℕ)
two (u ∷ (v ∷ [])) = Some (u, v)
two ws = None

-- three words and no more
abbrev pub three : List (List ℕ) → Option (List ℕ × List ℕ × List ℕ)
three (u ∷ (v ∷ (w ∷ []))) = Some (u, v, w)
three ws = None

-- ---- the problem: `p sp N M`, `p edge N M` or `p col N M`
-- whether arcs follow, or edges
abbrev pub direction_of : List ℕ → Option Bool
direction_of w =
    if bytes_eq w (codes "sp") then Some true
    else (if bytes_eq w (codes "edge") then Some false else (if bytes_eq w (codes "col") then Some false else None))

abbrev pub problem_with : ℕ → Option Bool → Option ℕ → Option ℕ → Option Problem
problem_with line (Some directed) (Some n) (Some m) = Some (record { line = line; directed = directed; vertices = n; links = m })
problem_with line directed n m = None

-- what the words behind `p` say
unfoldable pub problem_of_words : ℕ → List (List ℕ) → Option Problem
problem_of_words line ws = option_and_then (λ t. problem_with line (direction_of t.0) (natural_of t.1) (natural_of t.2)) (three ws)

abbrev pub problem_of_kind : ℕ → Kind → List (List ℕ) → Option Problem
problem_of_kind line TheProblem ws = problem_of_words line ws
problem_of_kind line kind ws = None

-- what a line says, by its number and words
abbrev pub problem_said : ℕ → List (List ℕ) → Option Problem
problem_said line [] = None
problem_said line (w ∷ ws) = problem_of_kind line (kind_of w) ws

-- the first problem that a line says
unfoldable pub problem_of : List LineOf → Option Problem
problem_of ls = first_some (map (λ l. problem_said l.number (words l.bytes)) ls)

-- ---- arcs and edges
abbrev pub link_with : Option ℕ → Option ℕ → Option ℤ → Option Insertion
link_with (Some u) (Some v) (Some len) = Some (insertion u v len)
link_with u v len = None

-- U V LEN behind `a`, by the numbers of the text
unfoldable pub arc_of_words : List (List ℕ) → Option Insertion
arc_of_words ws = option_and_then (λ t. link_with (natural_of t.0) (natural_of t.1) (length_of t.2)) (three ws)

-- U V behind `e`
unfoldable pub edge_of_words : List (List ℕ) → Option Insertion
edge_of_words ws = option_and_then (λ t. link_with (natural_of t.0) (natural_of t.1) (Some (pos 1))) (two ws)

abbrev pub link_of_kind : Kind → List (List ℕ) → Option Insertion
link_of_kind AnArc ws = arc_of_words ws
link_of_kind AnEdge ws = edge_of_words ws
link_of_kind kind ws = None

abbrev pub link_said : List (List ℕ) → Option Insertion
link_said [] = None
link_said (w ∷ ws) = link_of_kind (kind_of w) ws

-- vertex 1 of the text is vertex 0 of the graph
abbrev pub from_one : Insertion → Insertion
from_one e = insertion (e.from - 1) (e.to - 1) e.len

abbrev pub link_in : LineOf → Option Insertion
link_in l = option_map from_one (link_said (words l.bytes))

unfoldable pub links_in : List LineOf → List Insertion
links_in ls = filter_map link_in ls

-- ---- the id: `c ID`
abbrev pub id_in : LineOf → Option LineOf
id_in l = option_map (λ id. record l { bytes = id }) (behind (codes "c ") l.bytes)

-- the first line that says one
unfoldable pub id_line : List LineOf → Option LineOf
id_line ls = first_some (map id_in ls)

abbrev pub id_of : Option LineOf → List ℕ
id_of line = option_map_or (λ (l : LineOf). l.bytes) line (codes "import(dimacs)")

-- ---- faults
-- there are so many vertices, numbered from 1
abbrev pub is_vertex : ℕ → ℕ → Bool
is_vertex n v = nat_le 1 v && nat_le v n

-- the fault of a problem
abbrev pub problem_fault : Option Problem → Option Problem → Option TextFault
problem_fault (Some before) p = Some SecondProblem
problem_fault None None = Some NotAProblem
problem_fault None (Some p) = fault_unless (nat_le p.vertices 65535) TooManyVertices None

-- the fault of an arc or edge behind so many
abbrev pub ends_fault : Problem → ℕ → TextFault → Option Insertion → Option TextFault
ends_fault p m ill None = Some ill
ends_fault p m ill (Some e) =
    fault_unless (is_vertex p.vertices e.from && is_vertex p.vertices e.to) NoSuchVertex
    (fault_unless (nat_le (arcs_of_links p.directed (m + 1)) 1000000) TooManyArcs None)

-- the problem asks for arcs, or for edges
abbrev pub link_fault : Option Problem → ℕ → Bool → TextFault → Option Insertion → Option TextFault
link_fault None m directed ill e = Some NoProblem
link_fault (Some p) m true ill e = fault_unless p.directed NotALine (ends_fault p m ill e)
link_fault (Some p) m false ill e = if p.directed then Some NotALine else ends_fault p m ill e

abbrev pub fault_of_kind : Option Problem → ℕ → ℕ → Kind → List (List ℕ) → Option TextFault
fault_of_kind p m line Comment ws = None
fault_of_kind p m line TheProblem ws = problem_fault p (problem_of_words line ws)
fault_of_kind p m line AnArc ws = link_fault p m true NotAnArc (arc_of_words ws)
fault_of_kind p m line AnEdge ws = link_fault p m false NotAnEdge (edge_of_words ws)
fault_of_kind p m line Other ws = Some NotALine

-- the fault of a line, behind this problem or none, and so many arcs or edges
abbrev pub fault_said : Option Problem → ℕ → ℕ → List (List ℕ) → Option TextFault
fault_said p m line [] = None
fault_said p m line (w ∷ ws) = fault_of_kind p m line (kind_of w) ws

-- the fault of a line behind others
unfoldable pub fault_behind : List LineOf → LineOf → Option TextFault
fault_behind before l = fault_said (problem_of before) (length (links_in before)) l.number (words l.bytes)

abbrev pub line_at : List LineOf → ℕ → LineOf
line_at ls i = slice_index_or ls i (record { number = 0; bytes = [] })

-- the fault of line i
abbrev pub line_fault : List LineOf → ℕ → Option ImportRefusal
line_fault ls i = at_line (line_at ls i).number (fault_behind (take i ls) (line_at ls i))

abbrev pub first_line_fault : List LineOf → Option ImportRefusal
first_line_fault ls = first_some (map (line_fault ls) (range_with_len 0 (length ls)))

abbrev pub id_fault : Option LineOf → Option ImportRefusal
id_fault None = None
id_fault (Some l) = at_line l.number (fault_unless (is_id l.bytes) BadId None)

-- there is no problem, or it announces another number of arcs or edges
abbrev pub last_fault : ℕ → Option Problem → ℕ → Option ImportRefusal
last_fault last None m = at_line last (Some NoProblem)
last_fault last (Some p) m = at_line p.line (fault_unless (m == p.links) WrongEdges None)

unfoldable pub refusal_of_dimacs : List ℕ → Option ImportRefusal
refusal_of_dimacs text =
    let ls = lines text in
    option_or (id_fault (id_line ls)) (option_or (first_line_fault ls) (last_fault (length ls) (problem_of ls) (length (links_in ls))))

-- ---- the graph
-- a text without a problem says nothing
abbrev pub outline_with : List ℕ → Option Problem → List Insertion → Outline
outline_with id None links = record { id = id; names = []; directed = true; links = links }
outline_with id (Some p) links = record { id = id; names = numbered 1 p.vertices; directed = p.directed; links = links }

unfoldable pub outline_of_dimacs : List ℕ → Outline
outline_of_dimacs text = let ls = lines text in outline_with (id_of (id_line ls)) (problem_of ls) (links_in ls)
