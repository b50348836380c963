-- Lists of edges as far as they are read.
use Rattle.std.specs.Prelude.{◌≡◌, ◌≤◌, ◌<◌, ◌-◌, ◌^◌, ◌==◌, ◌||◌, ℕ, List, [], ◌∷◌, ◌++◌, map, length, All, Bool, true, false, not, nat_le, min, Option, None, Some, if◌then◌else◌}
use Rattle.std.specs.Borrow.{Bor}
use Rattle.std.specs.List.{list_any}
use Rattle.std.specs.Str.{bytes_eq}
use Rattle.sgb_graph.specs.Sound.{is_text}
use Rattle.sgb_graph.specs.Text.{IsText}
use Rattle.sgb_import.specs.declared.edges_ends.EdgeFault.{EdgeFault}
use Rattle.sgb_import.specs.declared.edges_ends.EdgeFault.TheVariants.{NoRoom, Text}
use Rattle.sgb_import.specs.declared.edges_header.Header.{Header}
use Rattle.sgb_import.specs.declared.edges_line.EdgeLine.{EdgeLine}
use Rattle.sgb_import.specs.declared.outline.Link.{Link}
use Rattle.sgb_import.specs.declared.outline.Names.{Names}
use Rattle.sgb_import.specs.declared.outline.Names.TheVariants.{Numbers, Words}
use Rattle.sgb_import.specs.declared.refusal.ImportRefusal.{ImportRefusal}
use Rattle.sgb_import.specs.declared.refusal.TextFault.{TextFault}
use Rattle.sgb_import.specs.declared.refusal.TextFault.TheVariants.{WrongEdges, WrongVertices, TooManyArcs, BadName}
use Rattle.sgb_import.specs.declared.source.EdgeList.{EdgeList}
use Rattle.sgb_import.specs.Edges.{Ends, directed_by, edges_in, end_fault, link_of, most_vertices, names_of, unless_header, vertex_no}
use Rattle.sgb_import.specs.Lines.{LineOf}
use Rattle.sgb_import.specs.Outline.{IsLink, arcs_of_links}
use Rattle.sgb_import.specs.Private.Outlined.{insertion_of, names_in}
use Rattle.sgb_import.specs.Refusal.{fault_unless, at_line}

-- the header as it is read: a number of more than 64 bits becomes the greatest
abbrev pub capped : Header → Header
capped h = record { line = h.line; directed = h.directed; vertices = min h.vertices (2 ^ 64 - 1); edges = min h.edges (2 ^ 64 - 1) }

-- the words, if they are four
abbrev pub four : List (List ℕ) → Option (List ℕ × List ℕ × List ℕ × List ℕ)
four (a ∷ (b ∷ (c ∷ (d ∷ [])))) = Some (a, b, c, d)
four _ = None

abbrev pub shown_four : Bor (List ℕ) × Bor (List ℕ) × Bor (List ℕ) × Bor (List ℕ) → List ℕ × List ℕ × List ℕ × List ℕ
shown_four ws = (ws.0.now, ws.1.now, ws.2.now, ws.3.now)

-- the edge of a line
abbrev pub shown_ends : EdgeLine → Ends
shown_ends e = record { from = e.from.now; to = e.to.now; len = e.len }

-- another number of edges was announced, or of names
abbrev pub announced_fault : EdgeList → Option Header → ℕ → ℕ → Option ImportRefusal
announced_fault list None names edges = None
announced_fault list (Some h) names edges =
    at_line h.line (fault_unless (edges == h.edges) WrongEdges (fault_unless (not list.names || (names == h.vertices)) WrongVertices None))

-- there are more names than vertices, or too many arcs
abbrev pub limits_fault : EdgeList → Option Header → ℕ → ℕ → Option TextFault
limits_fault list header names edges =
    fault_unless (not list.names || nat_le names (most_vertices header)) (unless_header header WrongVertices)
    (fault_unless (nat_le (arcs_of_links (directed_by list header) edges) 1000000) TooManyArcs None)

-- ---- what is read so far
-- the vertices are named by words, or by numbers from 0
abbrev pub IsKind : Bool → Names → Type 0
IsKind by_name (Numbers first count) = (by_name ≡ false) × (first ≡ 0)
IsKind by_name (Words words) = by_name ≡ true

-- the word is among the names, last if it is new
abbrev pub with_name : List (List ℕ) → List ℕ → List (List ℕ)
with_name names w = if list_any (bytes_eq w) names then names else names ++ w ∷ []

abbrev pub name_fault : List ℕ → Option TextFault
name_fault w = fault_unless (is_text w) BadName None

-- what is answered for a fault, if there is room
abbrev pub Tells : Option TextFault → EdgeFault → Type 0
Tells fault NoRoom = Unit {0}
Tells fault (Text f) = fault ≡ Some f

-- these edges are read, and none of them is at fault
pub record IsRead (list : EdgeList) (header : Option Header) (es : List Ends) (ns : Names) (ls : List Link) : Type 0 where
  pub kind : IsKind list.names ns
  pub names : names_in ns ≡ names_of list header es
  pub links : map insertion_of ls ≡ map (link_of list (names_of list header es)) es
  pub fits : All (IsLink (length (names_in ns))) (map insertion_of ls)
  pub text : All IsText (names_in ns)
  pub few_names : length (names_in ns) ≤ most_vertices header
  pub few_arcs : arcs_of_links (directed_by list header) (length ls) ≤ 1000000

-- the endpoints of an edge behind others are these vertices, and the names are those of all
pub record IsFound (list : EdgeList) (header : Option Header) (es : List Ends) (e : Ends) (old new : List (List ℕ)) (from to : ℕ) : Type 0 where
  pub from_fault : end_fault list header e.from ≡ None
  pub to_fault : end_fault list header e.to ≡ None
  pub names : new ≡ names_of list header (es ++ e ∷ [])
  pub from_is : from ≡ vertex_no list new e.from
  pub to_is : to ≡ vertex_no list new e.to
  pub from_low : from < length new
  pub to_low : to < length new
  pub more : length old ≤ length new
  pub text : All IsText old → All IsText new
  pub numbers : list.names ≡ false → length old ≤ most_vertices header → length new ≤ most_vertices header

-- the edges of these lines and this one are read
abbrev pub IsBehind : EdgeList → Option Header → List LineOf → LineOf → Names → List Link → Type 0
IsBehind list header before l names links = IsRead list header (edges_in (before ++ l ∷ [])) names links
