-- The builder that a combination begins with, and its plan.
use Rattle.std.specs.Prelude.{◌≡◌, ◌⊎◌, ◌<◌, ℕ, List, [], Bool, Result, Ok, Err}
use Rattle.sgb_graph.specs.declared.builder.Builder.{Builder}
use Rattle.sgb_graph.specs.declared.refusal.Refusal.{Refusal}
use Rattle.sgb_graph.specs.declared.refusal.Refusal.TheVariants.{NoRoom, TooLarge}
use Rattle.sgb_graph.specs.Graph.{GraphOf, n_of}
use Rattle.sgb_graph.specs.New.{bare_graph}
use Rattle.sgb_graph.specs.Builder.{Insertion}
use Rattle.sgb_plan.specs.Plan.{Named, Plan, with_named, no_letters}
use Rattle.sgb_combine.specs.Combined.{vertices_of}

-- a builder with this id and no vertices
abbrev pub bare_builder : List ℕ → Bool → Builder
bare_builder id directed = record { graph = bare_graph id no_letters []; directed = directed }

-- it has these vertices, or is refused for want of memory or because they are too many
abbrev pub Begins : List ℕ → Bool → List Named → Result Builder Refusal → Type 0
Begins id directed vs (Ok b) = b ≡ with_named (bare_builder id directed) vs
Begins id directed vs (Err e) =
    (e ≡ NoRoom) ⊎ ((e ≡ TooLarge) × (65535 < n_of (with_named (bare_builder id directed) vs).graph))

-- the plan with this id, the vertices of g and these insertions
abbrev pub combined : List ℕ → GraphOf → Bool → List Insertion → Plan
combined id g directed es = record { id = id; types = no_letters; vertices = vertices_of g; directed = directed; insertions = es }
