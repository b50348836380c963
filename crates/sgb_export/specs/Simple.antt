-- Graphs without loops and repeated edges.
use Rattle.std.specs.Prelude.{◌==◌, List, [], ◌∷◌, Bool, true, false, ◌&&◌, not}
use Rattle.std.specs.List.{list_all, list_any}
use Rattle.sgb_graph.specs.Graph.{GraphOf}
use Rattle.sgb_export.specs.declared.link.Link.{Link}
use Rattle.sgb_export.specs.Links.{links}

abbrev pub is_loop : Link → Bool
is_loop l = l.from == l.to

-- an edge is written from its lower endpoint
abbrev pub have_same_ends : Link → Link → Bool
have_same_ends l m = (l.from == m.from) && (l.to == m.to)

-- no edge has the endpoints of one behind it
unfoldable pub are_single : List Link → Bool
are_single [] = true
are_single (l ∷ ls) = not (list_any (have_same_ends l) ls) && are_single ls

-- no edge is a loop, and no two have the same endpoints
abbrev pub are_simple : List Link → Bool
are_simple ls = list_all (λ l. not (is_loop l)) ls && are_single ls

unfoldable pub is_simple : GraphOf → Bool
is_simple g = are_simple (links false g)
