-- How a combination begins: its builder, and its refusals.
use Rattle.std.proofs.Common.{◌≡◌, ◌≤◌, ℕ, List, length, Option, Some, None, Bool, Ok, Err, sym, ap, ap₂, subst, ◌∙◌, arith}
use Rattle.std.specs.List.{list_all}
use Rattle.std.specs.Option.{option_or}
use Rattle.std.proofs.lemmas.List.FromFn.{length-map-range_with_len}
use Rattle.sgb_graph.specs.declared.builder.Builder.{Builder}
use Rattle.sgb_graph.specs.declared.refusal.Refusal.{Refusal}
use Rattle.sgb_graph.specs.declared.refusal.Refusal.TheVariants.{NoRoom, BadOperand}
use Rattle.sgb_graph.specs.Edit.{refusal_unless}
use Rattle.sgb_graph.specs.Graph.{GraphOf, n_of}
use Rattle.sgb_graph.specs.Read.{leads_on}
use Rattle.sgb_graph.specs.Operand.{refusal_of_operand}
use Rattle.sgb_plan.specs.Plan.{Plan, IsMade, MayAllocate, with_named, plan_unless, no_letters}
use Rattle.sgb_plan.proofs.Plans.{begun, n-with_named, RefusesNames, refused_names}
use Rattle.sgb_plan.proofs.PlanRefusals.{may_allocate, never_operand, never_or, never_specs}
use Rattle.sgb_combine.specs.declared.spec.ProductSpec.{ProductSpec}
use Rattle.sgb_combine.specs.Combined.{refusal_of_operands, named_as, vertices_of}
use Rattle.sgb_combine.specs.Product.{is_kind, is_short_name, pair_names, refusal_of_product}
use Rattle.sgb_combine.specs.Private.Begin.{bare_builder, Begins}

-- ---- want of memory is no refusal that comes before the plan
pub no_room_of_operand : (g : GraphOf) → refusal_of_operand g ≡ Some NoRoom → ⊥
no_room_of_operand g = never_operand (list_all leads_on g.entries)

pub no_room_of_operands : (g h : GraphOf) → refusal_of_operands g h ≡ Some NoRoom → ⊥
no_room_of_operands g h = never_or (refusal_of_operand g) (refusal_of_operand h) (no_room_of_operand g) (no_room_of_operand h)

pub no_room_of_product : (g h : GraphOf) (spec : ProductSpec) → refusal_of_product g h spec ≡ Some NoRoom → ⊥
no_room_of_product g h spec =
    let short = list_all is_short_name (pair_names g h) in
    never_specs (is_kind spec.kind) (option_or (refusal_of_operands g h) (refusal_unless short BadOperand None))
    (never_or (refusal_of_operands g h) (refusal_unless short BadOperand None) (no_room_of_operands g h) (never_operand short))

-- with the vertices of a graph
pub may_allocate_as : (o : Option Refusal) (p : Plan) (g : GraphOf) → o ≡ None → p.vertices ≡ vertices_of g → n_of g ≤ 65535 → MayAllocate (plan_unless o p)
may_allocate_as o p g none same few =
    may_allocate o p none (omega (arith, few, ap length same, length-map-range_with_len (named_as g) 0 (n_of g)))

-- ---- the builder
pub named_so : (p : Plan) (id : List ℕ) {b : Builder} → id ≡ p.id → p.types ≡ no_letters → b ≡ with_named (bare_builder id p.directed) p.vertices → b ≡ with_named (begun p) p.vertices
named_so p id is letters named =
    named ∙ ap₂ (λ i t. with_named (record { graph = record (begun p).graph { id = i; types = t }; directed = p.directed }) p.vertices) is (sym letters)

-- what the builder refused
pub begun_refused : (p : Plan) (id : List ℕ) {e : Refusal} → id ≡ p.id → p.types ≡ no_letters → Begins id p.directed p.vertices (Err e) → IsMade (Ok p) (Err e)
begun_refused p id {e} is letters begins =
    let same : bare_builder id p.directed ≡ begun p = ap₂ (λ i t. record { graph = record (begun p).graph { id = i; types = t }; directed = p.directed }) is (sym letters) in
    refused_names p (subst (λ b. RefusesNames b p.vertices e) same begins)

-- it has the vertices of the graph
pub n_begun : (id : List ℕ) (directed : Bool) (g : GraphOf) {b : Builder} → b ≡ with_named (bare_builder id directed) (vertices_of g) → n_of b.graph ≡ n_of g
n_begun id directed g {b} named =
    let all : n_of b.graph ≡ n_of (with_named (bare_builder id directed) (vertices_of g)).graph = ap (λ (c : Builder). n_of c.graph) named in
    omega (arith, all, n-with_named (bare_builder id directed) (vertices_of g), length-map-range_with_len (named_as g) 0 (n_of g))
