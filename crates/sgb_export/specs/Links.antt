-- Which arcs of a graph are written, and whether the graph is directed.
use Rattle.std.specs.Prelude.{◌+◌, ℕ, ℤ, List, map, Option, Some, None, Bool, false, ◌&&◌, ◌||◌, not, nat_le}
use Rattle.std.specs.List.{filter, flat_map, list_all, range_with_len}
use Rattle.std.specs.Ordering.{int_eq}
use Rattle.sgb_graph.specs.Graph.{GraphOf, ArcOf, n_of, arc_at}
use Rattle.sgb_graph.specs.Edit.{entry_at}
use Rattle.sgb_graph.specs.Paired.{walk, is_paired}
use Rattle.sgb_graph.specs.Operand.{tip_number}
use Rattle.sgb_export.specs.declared.link.Link.{Link}

-- arc k of v's list: where it leads from and to, and its length
abbrev pub link : GraphOf → ℕ → ℕ → Link
link g v k = record { number = k; from = v; to = tip_number (entry_at g k).tip; len = (entry_at g k).len }

-- every arc of a directed graph is written, otherwise of an edge the half that leads up
abbrev pub is_written : Bool → Link → Bool
is_written directed l = directed || nat_le l.from l.to

-- the arcs of v that are written, in the order of its list
unfoldable pub links_at : Bool → GraphOf → ℕ → List Link
links_at directed g v = filter (is_written directed) (map (link g v) (walk directed g v))

-- and of all vertices
unfoldable pub links : Bool → GraphOf → List Link
links directed g = flat_map (links_at directed g) (range_with_len 0 (n_of g))

abbrev pub has_length : ℤ → Option ArcOf → Bool
has_length len None = false
has_length len (Some e) = int_eq e.len len

-- the other half of the edge has the next number, and the same length
abbrev pub is_even : GraphOf → Link → Bool
is_even g l = has_length l.len (arc_at g (l.number + 1))

-- the two halves of each edge of v have the same length
abbrev pub are_even_at : GraphOf → ℕ → Bool
are_even_at g v = list_all (is_even g) (links_at false g v)

-- some arc is not half of an edge, or the halves of an edge differ in length
unfoldable pub is_directed : GraphOf → Bool
is_directed g = not (is_paired g && list_all (are_even_at g) (range_with_len 0 (n_of g)))
