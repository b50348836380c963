-- What the laws of imports speak of: the arcs or edges that an export writes, and the order of those of an outline.
use Rattle.std.specs.Prelude.{◌≡◌, ◌⊎◌, ℕ, ◌==◌, ◌||◌, List, map, min, max, Bool, false, IsTrue}
use Rattle.std.specs.List.Sorted.{IsPermutation}
use Rattle.std.specs.List.{AllZip, filter, flat_map, list_any, range_with_len}
use Rattle.sgb_graph.specs.Graph.{GraphOf, label_of, n_of}
use Rattle.sgb_graph.specs.Builder.{Insertion, insertion}
use Rattle.sgb_export.specs.Links.{is_directed, links}
use Rattle.sgb_import.specs.Edges.{Ends, end_words, first_ones}

-- the arcs or edges that an export writes, in its order
abbrev pub written : Bool → GraphOf → List Insertion
written directed g = map (λ l. insertion l.from l.to l.len) (links directed g)

-- an edge, told from its smaller endpoint
abbrev pub upward : Insertion → Insertion
upward e = insertion (min e.from e.to) (max e.from e.to) e.len

-- those that leave v, in order
abbrev pub leaving : List Insertion → ℕ → List Insertion
leaving es v = filter (λ e. e.from == v) es

-- those that leave one of n vertices, vertex by vertex
abbrev pub by_source : ℕ → List Insertion → List Insertion
by_source n es = flat_map (leaving es) (range_with_len 0 n)

-- an arc or an edge, told by the names of its endpoints
abbrev pub by_names : (ℕ → List ℕ) → Insertion → Ends
by_names name e = record { from = name e.from; to = name e.to; len = e.len }

-- the vertex is an endpoint of what is written
abbrev pub IsMet : GraphOf → ℕ → Type 0
IsMet g v = IsTrue (list_any (λ e. e.from == v || e.to == v) (written (is_directed g) g))

-- what is written, by names
abbrev pub named_links : GraphOf → List Ends
named_links g = map (by_names (label_of g)) (written (is_directed g) g)

-- the names of all vertices stand in what is written, and first appear in the order of the vertices
abbrev pub AreMetInOrder : GraphOf → Type 0
AreMetInOrder g = first_ones (end_words (named_links g)) ≡ map (label_of g) (range_with_len 0 (n_of g))

-- the same arc, or the same edge, which may be told from its other endpoint
abbrev pub IsSame : Bool → Ends → Ends → Type 0
IsSame directed a b = (b ≡ a) ⊎ ((directed ≡ false) × (b ≡ record { from = a.to; to = a.from; len = a.len }))

-- the same arcs or edges, in another order
pub record AreSame (directed : Bool) (xs ys : List Ends) : Type 0 where
  pub turned : List Ends
  pub same : AllZip (IsSame directed) xs turned
  pub moved : IsPermutation turned ys
