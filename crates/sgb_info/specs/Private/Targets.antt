-- The vertex to which an arc leads.
use Rattle.std.specs.Prelude.{◌≡◌, ◌==◌, ◌<◌, ℕ, Option, None, Some, false}
use Rattle.sgb_graph.specs.declared.field.VertexNo.{VertexNo}
use Rattle.sgb_graph.specs.Graph.{GraphOf, n_of, arc_at}
use Rattle.sgb_info.specs.Degrees.{leads_to}

-- arc k leads to this vertex, or to none
abbrev pub IsTarget : GraphOf → ℕ → Option VertexNo → Type 0
IsTarget g k None = (v : ℕ) → leads_to v (arc_at g k) ≡ false
IsTarget g k (Some w) = (w.0 < n_of g) × ((v : ℕ) → leads_to v (arc_at g k) ≡ (w.0 == v))
