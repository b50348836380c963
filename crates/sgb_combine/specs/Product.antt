-- Products: a vertex for each pair of vertices of two graphs.
use Rattle.std.specs.Prelude.{◌+◌, ◌*◌, ℕ, ℤ, pos, List, [], ◌∷◌, ◌++◌, length, map, codes, Option, None, Bool, ◌||◌, not, nat_le, Result, if◌then◌else◌}
use Rattle.std.specs.List.{flat_map, filter, list_all, range_with_len}
use Rattle.std.specs.Fmt.{signed_decimal}
use Rattle.std.specs.Int.{int_min}
use Rattle.std.specs.Option.{option_or}
use Rattle.std.specs.Ordering.{int_eq}
use Rattle.sgb_graph.specs.declared.refusal.Refusal.{Refusal}
use Rattle.sgb_graph.specs.declared.refusal.Refusal.TheVariants.{BadSpecs, BadOperand}
use Rattle.sgb_graph.specs.Graph.{GraphOf, n_of, label_of}
use Rattle.sgb_graph.specs.New.{six_zeros}
use Rattle.sgb_graph.specs.Edit.{refusal_unless}
use Rattle.sgb_graph.specs.Builder.{along, Insertion}
use Rattle.sgb_graph.specs.declared.spoke.Spoke.{Spoke}
use Rattle.sgb_graph.specs.Operand.{spokes}
use Rattle.sgb_plan.specs.Id.{id_of_two, flag_text}
use Rattle.sgb_plan.specs.Plan.{Named, Plan, plan_unless, no_letters}
use Rattle.sgb_combine.specs.declared.spec.ProductSpec.{ProductSpec}
use Rattle.sgb_combine.specs.Combined.{refusal_of_operands, is_upward}

-- 0 is the cartesian product, 1 the direct one, 2 the strong one, which has the arcs of both
abbrev pub is_kind : ℤ → Bool
is_kind kind = int_eq kind (pos 0) || int_eq kind (pos 1) || int_eq kind (pos 2)

abbrev pub has_single : ℤ → Bool
has_single kind = not (int_eq kind (pos 1))

abbrev pub has_double : ℤ → Bool
has_double kind = not (int_eq kind (pos 0))

-- the pair (a, b), where h has k vertices: its name and its number
abbrev pub pair_name : GraphOf → GraphOf → ℕ → ℕ → Named
pair_name g h a b = record { label = label_of g a ++ codes "," ++ label_of h b; fields = six_zeros }

abbrev pub pair_number : ℕ → ℕ → ℕ → ℕ
pair_number k a b = a * k + b

unfoldable pub pair_names : GraphOf → GraphOf → List Named
pair_names g h = flat_map (λ a. map (pair_name g h a) (range_with_len 0 (n_of h))) (range_with_len 0 (n_of g))

abbrev pub is_short_name : Named → Bool
is_short_name v = nat_le (length v.label) 4095

-- the first refusal, want of memory and too many vertices or numbers aside
abbrev pub refusal_of_product : GraphOf → GraphOf → ProductSpec → Option Refusal
refusal_of_product g h spec =
    refusal_unless (is_kind spec.kind) BadSpecs
    (option_or (refusal_of_operands g h)
    (refusal_unless (list_all is_short_name (pair_names g h)) BadOperand None))

-- one step: along an arc of a, or else along an arc of b
abbrev pub first_steps : ℕ → ℕ → List Spoke → List Spoke
first_steps k b = map (λ s. record { to = pair_number k s.to b; len = s.len })

abbrev pub second_steps : ℕ → ℕ → List Spoke → List Spoke
second_steps k a = map (λ t. record { to = pair_number k a t.to; len = t.len })

-- along an arc of each, as long as the shorter of them
abbrev pub both_steps : ℕ → List Spoke → List Spoke → List Spoke
both_steps k ss ts =
    flat_map (λ s. map (λ t. record { to = pair_number k s.to t.to; len = int_min s.len t.len }) ts) ss

-- the arcs of (a, b), by those of a and of b
abbrev pub pair_spokes : ℤ → ℕ → ℕ → ℕ → List Spoke → List Spoke → List Spoke
pair_spokes kind k a b ss ts =
    (if has_single kind then first_steps k b ss ++ second_steps k a ts else [])
    ++ (if has_double kind then both_steps k ss ts else [])

unfoldable pub product_at : ProductSpec → GraphOf → GraphOf → ℕ → ℕ → List Insertion
product_at spec g h a b =
    let k : ℕ = n_of h in
    map (along (pair_number k a b))
    (filter (is_upward spec.directed (pair_number k a b))
    (pair_spokes spec.kind k a b (spokes spec.directed g a) (spokes spec.directed h b)))

abbrev pub product_plan : GraphOf → GraphOf → ProductSpec → Plan
product_plan g h spec = record {
  id = id_of_two (codes "product") g.id h.id (signed_decimal spec.kind ∷ flag_text spec.directed ∷ []);
  types = no_letters;
  vertices = pair_names g h;
  directed = spec.directed;
  insertions = flat_map (λ a. flat_map (product_at spec g h a) (range_with_len 0 (n_of h))) (range_with_len 0 (n_of g));
}

abbrev pub plan_of_product : GraphOf → GraphOf → ProductSpec → Result Plan Refusal
plan_of_product g h spec = plan_unless (refusal_of_product g h spec) (product_plan g h spec)
