-- Numbers that are given out as holes.
use Rattle.std.specs.Prelude.{ℕ, [], ◌∷◌, ◌++◌, None, replicate}
use Rattle.sgb_graph.specs.Graph.{GraphOf}
use Rattle.sgb_graph.specs.New.{new_graph}

abbrev pub with_hole : GraphOf → GraphOf
with_hole g = record g { entries = g.entries ++ None ∷ [] }

-- n blank vertices, and so many holes
unfoldable pub blank_graph : ℕ → ℕ → GraphOf
blank_graph n made = record (new_graph n) { entries = replicate made None }
