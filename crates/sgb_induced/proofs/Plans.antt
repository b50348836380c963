-- Lemmas on the plan of an induced graph: its refusals, and what is made of it.
use Rattle.std.proofs.Common.{◌≡◌, ◌<◌, ◌≤◌, ℕ, List, [], length, map, Option, Some, ◌&&◌, nat_le, Ok, Err, ◌⊎◌, inl, inr, refl, sym, ap, ap₂, subst, ◌∙◌, arith}
use Rattle.std.specs.List.{flat_map, list_all, range_with_len}
use Rattle.std.specs.Option.{option_or}
use Rattle.std.proofs.lemmas.Bool.{le-leb, lt-leb}
use Rattle.sgb_graph.specs.declared.builder.Builder.{Builder}
use Rattle.sgb_graph.specs.declared.refusal.Refusal.{Refusal}
use Rattle.sgb_graph.specs.declared.refusal.Refusal.TheVariants.{BadSpecs, NoRoom, TooLarge}
use Rattle.sgb_graph.specs.Graph.{GraphOf, n_of}
use Rattle.sgb_graph.specs.New.{bare_graph}
use Rattle.sgb_graph.specs.Read.{leads_on}
use Rattle.sgb_graph.specs.Operand.{refusal_of_operand}
use Rattle.sgb_plan.specs.Plan.{IsMade, with_named}
use Rattle.sgb_plan.proofs.Plans.{RefusesNames, begun, many_vertices, n-with_named, refused_names}
use Rattle.sgb_plan.proofs.PlanRefusals.{never_operand, never_or, never_specs}
use Rattle.sgb_induced.specs.declared.fate.Fate.{Fate}
use Rattle.sgb_induced.specs.declared.image.Image.{Image}
use Rattle.sgb_induced.specs.declared.inducing.InducedSpec.{InducedSpec}
use Rattle.sgb_induced.specs.declared.run.Run.{Run}
use Rattle.sgb_induced.specs.Fate.{fates_of, have_fates}
use Rattle.sgb_induced.specs.Image.{have_names, named, start}
use Rattle.sgb_induced.specs.Induced.{induced_plan, refusal_of_fates, refusal_of_induced}
use Rattle.sgb_induced.specs.Private.Run.{AreWithin, expanded, image_of, runs_of}
use Rattle.sgb_induced.proofs.Expansion.{expanded_all}
use Rattle.sgb_induced.proofs.CopyNames.{length-named, long_enough}
use Rattle.sgb_induced.proofs.ImagePlaces.{all_within}

-- ---- refusals before the plan
pub long : (g : GraphOf) (t : List ℕ) → 40 < length t → refusal_of_induced g t ≡ Some BadSpecs
long g t many = rw (lt-leb (length t) 40 many) refl

pub judged : (g : GraphOf) (t : List ℕ) {a b : Option Refusal} → length t ≤ 40 → refusal_of_operand g ≡ a → refusal_of_fates g ≡ b → refusal_of_induced g t ≡ option_or a b
judged g t few operand fates = rw (le-leb (length t) 40 few) (ap₂ option_or operand fates)

-- want of memory is none of them
pub no_room : (g : GraphOf) (t : List ℕ) → refusal_of_induced g t ≡ Some NoRoom → ⊥
no_room g t =
    never_specs (nat_le (length t) 40) (option_or (refusal_of_operand g) (refusal_of_fates g))
    (never_or (refusal_of_operand g) (refusal_of_fates g) (never_operand (list_all leads_on g.entries)) (never_operand (have_fates g && have_names g (fates_of g))))

-- ---- what is made of the plan
pub begins : (g : GraphOf) (t : List ℕ) (spec : InducedSpec) {id types : List ℕ} {b : Builder} → b ≡ record { graph = bare_graph id types []; directed = spec.directed } → id ≡ (induced_plan g t spec).id → types ≡ (induced_plan g t spec).types → b ≡ begun (induced_plan g t spec)
unfolding induced_plan
begins g t spec is named letters = is ∙ ap₂ (λ i t. record { graph = bare_graph i t []; directed = spec.directed }) named letters

pub refused_images : (g : GraphOf) (t : List ℕ) (spec : InducedSpec) {e : Refusal} → (e ≡ NoRoom) ⊎ ((e ≡ TooLarge) × (65535 < start (fates_of g) (n_of g))) → IsMade (Ok (induced_plan g t spec)) (Err e)
unfolding induced_plan
refused_images g t spec (inl room) = inl room
refused_images g t spec (inr large) = many_vertices (induced_plan g t spec) large.0 (omega (arith, large.1, length-named g (fates_of g)))

pub named_all : (g : GraphOf) (t : List ℕ) (spec : InducedSpec) {b c : Builder} → b ≡ begun (induced_plan g t spec) → c ≡ with_named b (named g (fates_of g)) → c ≡ with_named (begun (induced_plan g t spec)) (induced_plan g t spec).vertices
unfolding induced_plan
named_all g t spec begun_so named_so = named_so ∙ ap (λ b. with_named b (named g (fates_of g))) begun_so

pub refused_named : (g : GraphOf) (t : List ℕ) (spec : InducedSpec) {b : Builder} {e : Refusal} → b ≡ begun (induced_plan g t spec) → RefusesNames b (named g (fates_of g)) e → IsMade (Ok (induced_plan g t spec)) (Err e)
unfolding induced_plan
refused_named g t spec {b} {e} begun_so refused = refused_names (induced_plan g t spec) (subst (λ c. RefusesNames c (named g (fates_of g)) e) begun_so refused)

pub n-named_all : (g : GraphOf) (t : List ℕ) (spec : InducedSpec) {b c : Builder} → b ≡ begun (induced_plan g t spec) → c ≡ with_named b (named g (fates_of g)) → n_of c.graph ≡ start (fates_of g) (n_of g)
unfolding induced_plan
n-named_all g t spec {b} {c} begun_so named_so =
    let none : n_of b.graph ≡ 0 = ap (λ (d : Builder). n_of d.graph) begun_so in
    let all : n_of c.graph ≡ n_of (with_named b (named g (fates_of g))).graph = ap (λ (d : Builder). n_of d.graph) named_so in
    omega (arith, none, all, n-with_named b (named g (fates_of g)), length-named g (fates_of g))

-- the insertions of the runs are those of the plan
pub inserted_all : (g : GraphOf) (t : List ℕ) (spec : InducedSpec) {is : List Image} {rs : List Run} → is ≡ map (image_of (fates_of g)) (range_with_len 0 (n_of g)) → rs ≡ runs_of spec.multi spec.directed g is → flat_map (expanded spec.loops spec.directed is) rs ≡ (induced_plan g t spec).insertions
unfolding induced_plan
inserted_all g t spec {is} {rs} known gathered =
    ap (flat_map (expanded spec.loops spec.directed is)) gathered ∙ expanded_all g (fates_of g) spec.loops spec.multi spec.directed known (long_enough g refl)

pub known_all : (g : GraphOf) {fs : List Fate} {is : List Image} → fs ≡ fates_of g → is ≡ map (image_of fs) (range_with_len 0 (length fs)) → is ≡ map (image_of (fates_of g)) (range_with_len 0 (n_of g))
known_all g same known = known ∙ ap₂ (λ fs n. map (image_of fs) (range_with_len 0 n)) same (long_enough g same)

pub too_many_all : (g : GraphOf) {fs : List Fate} {e : Refusal} → fs ≡ fates_of g → (e ≡ NoRoom) ⊎ ((e ≡ TooLarge) × (65535 < start fs (length fs))) → (e ≡ NoRoom) ⊎ ((e ≡ TooLarge) × (65535 < start (fates_of g) (n_of g)))
too_many_all g same (inl room) = inl room
too_many_all g same (inr large) = inr (large.0, omega (arith, large.1, ap₂ (λ fs n. start fs n) same (long_enough g same)))

pub few_all : (g : GraphOf) {fs : List Fate} → fs ≡ fates_of g → start fs (length fs) ≤ 65535 → start (fates_of g) (n_of g) ≤ 65535
few_all g same few = omega (arith, few, ap₂ (λ fs n. start fs n) same (long_enough g same))

pub within_all : (g : GraphOf) {is : List Image} {n : ℕ} → is ≡ map (image_of (fates_of g)) (range_with_len 0 (n_of g)) → n ≡ start (fates_of g) (n_of g) → AreWithin n is
within_all g {is} known same = subst (λ n. AreWithin n is) (sym same) (all_within (fates_of g) (n_of g) known (omega (arith, long_enough g refl)))
