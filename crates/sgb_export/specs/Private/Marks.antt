-- Marks that a writer of graph6 needs, one for each vertex.
use Rattle.std.specs.Prelude.{◌≡◌, ◌==◌, ℕ, List, Bool, All, length}
use Rattle.std.specs.List.{list_any}
use Rattle.sgb_graph.specs.Graph.{GraphOf, n_of, arcs_of}
use Rattle.sgb_graph.specs.Edit.{entry_at}
use Rattle.sgb_graph.specs.Operand.{tip_number}
use Rattle.sgb_export.specs.declared.format.Format.{Format}
use Rattle.sgb_export.specs.declared.format.Format.TheVariants.{Graph6}

-- one for each vertex, all 0
pub record AreBlank (g : GraphOf) (marks : List ℕ) : Type 0 where
  pub count : length marks ≡ n_of g
  pub zero : All (λ m. m ≡ 0) marks

-- graph6 needs them
abbrev pub AreMarks : Format → GraphOf → List ℕ → Type 0
AreMarks Graph6 g marks = AreBlank g marks
AreMarks format g marks = Unit {0}

-- the arc leads to w
abbrev pub leads_to : GraphOf → ℕ → ℕ → Bool
leads_to g w k = tip_number (entry_at g k).tip == w

-- some arc of v leads to w
unfoldable pub has_arc_to : GraphOf → ℕ → ℕ → Bool
has_arc_to g v w = list_any (leads_to g w) (arcs_of g v)
