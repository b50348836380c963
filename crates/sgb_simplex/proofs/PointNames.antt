-- Points that are made vertices.
use Rattle.std.proofs.Common.{◌≡◌, ◌≤◌, ◌⊎◌, ℕ, List, [], ◌∷◌, Result, Ok, Err, OnOk, IfErr, ap₂, subst, ◌∙◌}
use Rattle.sgb_graph.specs.declared.builder.Builder.{Builder}
use Rattle.sgb_graph.specs.declared.field.Util.{Util}
use Rattle.sgb_graph.specs.declared.refusal.Refusal.{Refusal}
use Rattle.sgb_graph.specs.declared.refusal.Refusal.TheVariants.{NoRoom, TooLarge}
use Rattle.sgb_graph.specs.Graph.{n_of}
use Rattle.sgb_graph.specs.Vertex.{new_vertex, with_vertex_last}
use Rattle.sgb_plan.specs.Name.{dotted}
use Rattle.sgb_plan.specs.Plan.{Names, with_named}
use Rattle.sgb_plan.proofs.Plans.{RefusesNames, pushed, push_refused}
use Rattle.sgb_simplex.specs.Points.{point_vertex}

-- the vertex of a point is pushed, or refused
pub names_one : (old new : Builder) (p label : List ℕ) (fields : List Util) (r : Result (Unit {0}) Refusal) → label ≡ dotted p → fields ≡ (point_vertex p).fields
    → OnOk r (new ≡ record old { graph = with_vertex_last old.graph (new_vertex label fields) }) → IfErr r (λ e. (e ≡ NoRoom) ⊎ ((e ≡ TooLarge) × (65535 ≤ n_of old.graph)))
    → Names {T = Unit {0}} old new (point_vertex p ∷ []) r
names_one old new p label fields (Ok x) name values ok err =
    ok ∙ (pushed old label fields ∙ ap₂ (λ l fs. with_named old (record { label = l; fields = fs } ∷ [])) name values)
names_one old new p label fields (Err e) name values ok err =
    subst (λ v. RefusesNames old (v ∷ []) e) (ap₂ (λ l fs. record { label = l; fields = fs }) name values) (push_refused old label fields err)
