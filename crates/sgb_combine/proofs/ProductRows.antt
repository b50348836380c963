-- Lemmas on what a product inserts from one pair.
use Rattle.std.proofs.Common.{◌≡◌, ◌*◌, ◌==◌, ℕ, List, [], ◌∷◌, ◌++◌, length, map, Bool, true, false, inl, inr, refl, sym, ap, ◌∙◌, cond}
use Rattle.std.specs.List.{flat_map}
use Rattle.std.proofs.lemmas.List.{map-append}
use Rattle.sgb_graph.specs.declared.builder.Builder.{Builder}
use Rattle.sgb_graph.specs.declared.refusal.Refusal.{Refusal}
use Rattle.sgb_graph.specs.Builder.{along, Insertion, grown}
use Rattle.sgb_graph.proofs.Insertions.{grown-nil, too_many-append}
use Rattle.sgb_graph.proofs.InsertionRuns.{RefusesInsertions}
use Rattle.sgb_graph.specs.declared.spoke.Spoke.{Spoke}
use Rattle.sgb_combine.specs.declared.spec.ProductSpec.{ProductSpec}
use Rattle.sgb_combine.specs.Product.{has_single, has_double, pair_number}
use Rattle.sgb_combine.specs.Private.Pruned.{scaled, double_steps, inner, outer, singles, doubles, doubles_over, pruned}

-- ---- insertions
pub refused_first : (b : Builder) (e : Refusal) (es fs : List Insertion) → RefusesInsertions b es e → RefusesInsertions b (es ++ fs) e
refused_first b e es fs (inl room) = inl room
refused_first b e es fs (inr large) = inr (large.0, too_many-append b es fs large.1)

pub none_inserted : (b : Builder) (es : List Insertion) → es ≡ [] → b ≡ grown b es
none_inserted b es none = sym (grown-nil b) ∙ ap (grown b) (sym none)

-- ---- the parts
pub singles_none : (single : Bool) (p k a b : ℕ) (from upward : List Spoke) → single ≡ false → map (along p) (singles single k a b from upward) ≡ []
singles_none single p k a b from upward is = ap (λ t. map (along p) (singles t k a b from upward)) is

pub singles_two : (single : Bool) (p k a b : ℕ) (from upward : List Spoke) → single ≡ true → map (along p) (map (scaled k b) from) ++ map (along p) (map (scaled 1 (a * k)) upward) ≡ map (along p) (singles single k a b from upward)
singles_two single p k a b from upward is =
    sym (map-append (along p) (map (scaled k b) from) (map (scaled 1 (a * k)) upward))
    ∙ ap (λ t. map (along p) (singles t k a b from upward)) (sym is)

pub doubles_none : (pairs directed : Bool) (p k a : ℕ) (from above all upward : List Spoke) → pairs ≡ false → map (along p) (doubles pairs directed k a from above all upward) ≡ []
doubles_none pairs directed p k a from above all upward is = ap (λ t. map (along p) (doubles t directed k a from above all upward)) is

doubles_some : (pairs directed empty : Bool) (p k a : ℕ) (from above all upward : List Spoke) → pairs ≡ true → (length all == 0) ≡ empty → map (along p) (doubles pairs directed k a from above all upward) ≡ map (along p) (cond empty [] (doubles_over directed k a all upward (outer from above upward)))
doubles_some pairs directed empty p k a from above all upward is size =
    ap (λ t. map (along p) (doubles t directed k a from above all upward)) is
    ∙ ap (λ t. map (along p) (cond t [] (doubles_over directed k a all upward (outer from above upward)))) size

pub doubles_empty : (pairs directed : Bool) (p k a : ℕ) (from above all upward : List Spoke) → pairs ≡ true → (length all == 0) ≡ true → map (along p) (doubles pairs directed k a from above all upward) ≡ []
doubles_empty pairs directed p k a from above all upward is size = doubles_some pairs directed true p k a from above all upward is size

map-flat_map : {X Y Z : Type 0} (f : Y → Z) (g : X → List Y) (xs : List X) → flat_map (λ x. map f (g x)) xs ≡ map f (flat_map g xs)
map-flat_map f g [] = refl
map-flat_map f g (x ∷ xs) = ap (λ ys. map f (g x) ++ ys) (map-flat_map f g xs) ∙ sym (map-append f (g x) (flat_map g xs))

pub doubles_above : (pairs directed : Bool) (p k a : ℕ) (from above all upward : List Spoke) → pairs ≡ true → (length all == 0) ≡ false → (length upward == 0) ≡ true → flat_map (λ s. map (along p) (double_steps k s (inner directed a all upward s))) above ≡ map (along p) (doubles pairs directed k a from above all upward)
doubles_above pairs directed p k a from above all upward is some none =
    map-flat_map (along p) (λ s. double_steps k s (inner directed a all upward s)) above
    ∙ (ap (λ t. map (along p) (doubles_over directed k a all upward (cond t above from))) (sym none)
    ∙ sym (doubles_some pairs directed false p k a from above all upward is some))

pub doubles_from : (pairs directed : Bool) (p k a : ℕ) (from above all upward : List Spoke) → pairs ≡ true → (length all == 0) ≡ false → (length upward == 0) ≡ false → flat_map (λ s. map (along p) (double_steps k s (inner directed a all upward s))) from ≡ map (along p) (doubles pairs directed k a from above all upward)
doubles_from pairs directed p k a from above all upward is some more =
    map-flat_map (along p) (λ s. double_steps k s (inner directed a all upward s)) from
    ∙ (ap (λ t. map (along p) (doubles_over directed k a all upward (cond t above from))) (sym more)
    ∙ sym (doubles_some pairs directed false p k a from above all upward is some))

pub pruned_two : (spec : ProductSpec) (k a b : ℕ) (from above all upward : List Spoke) → map (along (pair_number k a b)) (singles (has_single spec.kind) k a b from upward) ++ map (along (pair_number k a b)) (doubles (has_double spec.kind) spec.directed k a from above all upward) ≡ pruned spec k a b from above all upward
unfolding pruned
pruned_two spec k a b from above all upward =
    sym (map-append (along (pair_number k a b)) (singles (has_single spec.kind) k a b from upward) (doubles (has_double spec.kind) spec.directed k a from above all upward))
