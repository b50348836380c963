-- What the readers show of an arc, and whether arcs lead to vertices.
use Rattle.std.specs.Prelude.{◌≡◌, ◌<◌, ℕ, List, [], ◌∷◌, ◌++◌, Option, Some, None, Bool, true, false}
use Rattle.sgb_graph.specs.declared.field.ArcNo.{ArcNo}
use Rattle.sgb_graph.specs.declared.field.Tip.{Tip}
use Rattle.sgb_graph.specs.declared.field.Tip.TheVariants.{Zero, One, To}
use Rattle.sgb_graph.specs.declared.graph.read.ArcView.{ArcView}
use Rattle.sgb_graph.specs.Graph.{GraphOf, ArcOf, n_of, arcs_of, arc_at}
use Rattle.sgb_graph.specs.Edit.{owner_of}

abbrev pub entry_view : ℕ → Option ArcOf → Option ArcView
entry_view v None = None
entry_view v (Some e) = Some (record { owner = record { 0 = v }; tip = e.tip; len = e.len })

-- the arc with the vertex that lists it; a hole shows none
abbrev pub arc_view : GraphOf → ℕ → Option ArcView
arc_view g k = entry_view (owner_of g k) (arc_at g k)

-- what is shown has the tip and the length of the arc
pub record ShowsEntry (e : ArcOf) (a : ArcView) : Type 0 where
  pub tip : a.tip ≡ e.tip
  pub len : a.len ≡ e.len

-- the tip is a vertex
abbrev pub is_vertex_tip : Tip → Bool
is_vertex_tip Zero = false
is_vertex_tip One = false
is_vertex_tip (To v) = true

-- a hole, or an arc that leads to a vertex
abbrev pub leads_on : Option ArcOf → Bool
leads_on None = true
leads_on (Some e) = is_vertex_tip e.tip

-- the first number of a list
abbrev pub first_of : List ℕ → Option ArcNo
first_of [] = None
first_of (k ∷ ks) = Some (record { 0 = k })

-- what follows arc k in the list that has it
abbrev pub IsNextOf : GraphOf → ℕ → Option ArcNo → Type 0
IsNextOf g k link = (v : ℕ) → v < n_of g → (before after : List ℕ) → arcs_of g v ≡ before ++ (k ∷ after) → link ≡ first_of after
