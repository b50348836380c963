-- The arcs that draw, vertex by vertex.
use Rattle.std.proofs.Common.{◌≡◌, ◌+◌, ℕ, Bool, List, ◌∷◌, [], ◌++◌, sym, ap, ◌∙◌, arith}
use Rattle.std.proofs.lemmas.List.{flat_map_more, map-id}
use Rattle.std.proofs.lemmas.List.FromFn.{map-range_with_len_more}
use Rattle.std.specs.List.{flat_map, range_with_len}
use Rattle.sgb_graph.specs.Graph.{GraphOf}
use Rattle.sgb_combine.specs.Drawing.{drawing_at}

-- one number more
pub range_next : (n : ℕ) → range_with_len 0 n ++ n ∷ [] ≡ range_with_len 0 (n + 1)
range_next n =
    ap (λ ks. ks ++ n ∷ []) (sym (map-id (range_with_len 0 n)))
    ∙ (sym (map-range_with_len_more (λ k. k) 0 n n (omega arith)) ∙ map-id (range_with_len 0 (n + 1)))

-- those of the vertices before v
abbrev pub drawing_before : Bool → GraphOf → ℕ → List ℕ
drawing_before directed g v = flat_map (drawing_at directed g) (range_with_len 0 v)

-- those of one vertex more
pub drawing_more : (directed : Bool) (g : GraphOf) (v : ℕ) → drawing_before directed g v ++ drawing_at directed g v ≡ drawing_before directed g (v + 1)
drawing_more directed g v =
    flat_map_more (drawing_at directed g) [] (range_with_len 0 v) v ∙ ap (flat_map (drawing_at directed g)) (range_next v)
