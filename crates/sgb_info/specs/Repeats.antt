-- Loops, and edges or arcs that are repeated.
use Rattle.std.specs.Prelude.{◌==◌, ℕ, List, map, take, length, slice_index, Bool, count_by, sum_by}
use Rattle.std.specs.List.{list_any, range_with_len}
use Rattle.sgb_graph.specs.Graph.{GraphOf, n_of, occurrences}
use Rattle.sgb_export.specs.Links.{links_at}

-- where the edges or arcs that are written of v lead
unfoldable pub tips : Bool → GraphOf → ℕ → List ℕ
tips directed g v = map (λ l. l.to) (links_at directed g v)

-- how many lead to their own vertex
unfoldable pub loops : Bool → GraphOf → ℕ
loops directed g = sum_by (λ v. occurrences v (tips directed g v)) (range_with_len 0 (n_of g))

-- the number at i stands before it too
abbrev pub is_repeated : List ℕ → ℕ → Bool
is_repeated ks i = list_any (λ k. k == slice_index ks i) (take i ks)

-- how many numbers stand before their place too
unfoldable pub repeats : List ℕ → ℕ
repeats ks = count_by (is_repeated ks) (range_with_len 0 (length ks))

-- how many edges or arcs are not the first of their vertex to their tip
unfoldable pub repeated : Bool → GraphOf → ℕ
repeated directed g = sum_by (λ v. repeats (tips directed g v)) (range_with_len 0 (n_of g))
