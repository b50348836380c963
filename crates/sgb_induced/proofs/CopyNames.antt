-- Lemmas on the names of copies, and on loops that make vertices.
use Rattle.std.proofs.Common.{◌≡◌, ◌<◌, ◌≤◌, ◌+◌, ◌-◌, ◌/◌, ◌%◌, ◌^◌, ◌==◌, ℕ, zero, suc, List, [], ◌∷◌, ◌++◌, length, map, codes, decimal, Bool, true, false, nat_le, inl, inr, refl, sym, ap, ap₂, subst, ◌∙◌, arith, length-append}
use Rattle.std.specs.List.{flat_map, range_with_len}
use Rattle.std.proofs.lemmas.Bool.{cases_lt, eq-eqb, ne_eqb, le-leb, lt-leb}
use Rattle.std.proofs.lemmas.Fmt.{decimal_by_steps, decimal_nonempty, decimal_step}
use Rattle.std.proofs.lemmas.List.{length-map}
use Rattle.std.proofs.lemmas.List.FromFn.{get_or-map-range_with_len, length-map-range_with_len, length-range_with_len}
use Rattle.sgb_graph.specs.declared.builder.Builder.{Builder}
use Rattle.sgb_graph.specs.declared.refusal.Refusal.{Refusal}
use Rattle.sgb_graph.specs.Graph.{GraphOf, n_of, label_of}
use Rattle.sgb_graph.specs.Text.{IsText}
use Rattle.sgb_plan.specs.Plan.{Named, with_named}
use Rattle.sgb_plan.specs.Private.Bytes.{IsShort}
use Rattle.sgb_plan.proofs.Plans.{NamesFrom, NamesLeft, RefusesNames, names_as, names_end, names_from_start, names_refused, names_some}
use Rattle.sgb_plan.proofs.Shorts.{IsShort-append, IsShort-byte, IsShort-decimal, IsShort-exact, IsShort-from_text, text_from_short}
use Rattle.sgb_induced.specs.declared.fate.Fate.{Fate}
use Rattle.sgb_induced.specs.declared.fate.Fate.TheVariants.{Copies, Class}
use Rattle.sgb_induced.specs.Fate.{fate_at, fates_of}
use Rattle.sgb_induced.specs.Image.{copy, copy_name, count_of, fate, has_name, leader, made_at, named, named_at, start}
use Rattle.sgb_induced.proofs.Leaders.{leader_of_copies}
use Rattle.sgb_induced.proofs.Ranges.{flat_map_range_more, sum_range_more}

-- ---- how many new vertices stand in the place of one
pub made_leading : (fs : List Fate) (v : ℕ) → leader fs v ≡ v → made_at fs v ≡ count_of (fate fs v)
unfolding made_at
made_leading fs v leads = rw (eq-eqb (leader fs v) v leads) refl

pub made_following : (fs : List Fate) (v : ℕ) → (leader fs v ≡ v → ⊥) → made_at fs v ≡ 0
unfolding made_at
made_following fs v follows = rw (ne_eqb (leader fs v) v follows) refl

made-le_by : (fs : List Fate) (v : ℕ) (b : Bool) → (leader fs v == v) ≡ b → made_at fs v ≤ count_of (fate fs v)
unfolding made_at
made-le_by fs v true is = rw is (omega arith)
made-le_by fs v false is = rw is (omega arith)

pub made-le : (fs : List Fate) (v : ℕ) → made_at fs v ≤ count_of (fate fs v)
made-le fs v = made-le_by fs v (leader fs v == v) refl

-- ---- names
first_name : (label : List ℕ) (j : ℕ) → j ≤ 1 → copy_name label j ≡ label
first_name label j h = rw (le-leb j 1 h) refl

other_name : (label : List ℕ) (j : ℕ) → 1 < j → copy_name label j ≡ label ++ codes ":" ++ decimal j
other_name label j h = rw (lt-leb j 1 h) refl

pub long_enough : (g : GraphOf) {fs : List Fate} → fs ≡ fates_of g → length fs ≡ n_of g
long_enough g is = ap length is ∙ length-map-range_with_len (fate_at g) 0 (n_of g)

same_name_by : (fs : List Fate) (v : ℕ) (f : Fate) (label : List ℕ) → fate fs v ≡ f → copy_name label (count_of (fate fs v)) ≡ copy_name label (made_at fs v)
same_name_by fs v (Copies k) label is = ap (copy_name label) (sym (made_leading fs v (leader_of_copies fs v k is)))
same_name_by fs v (Class c) label is =
    let one : count_of (fate fs v) ≡ 1 = ap count_of is in
    first_name label (count_of (fate fs v)) (omega (arith, one)) ∙ sym (first_name label (made_at fs v) (omega (arith, one, made-le fs v)))

-- the name of the last copy of v, which becomes f, is what was judged
pub name_fits : (g : GraphOf) (v : ℕ) (f : Fate) {label : List ℕ} {b : Bool} → v < n_of g → f ≡ fate_at g v → label ≡ label_of g v → b ≡ nat_le (length (copy_name label (count_of f))) 4095 → b ≡ has_name g (fates_of g) v
name_fits g v f h becomes whose is =
    let read : f ≡ fate (fates_of g) v = becomes ∙ sym (get_or-map-range_with_len (fate_at g) 0 (n_of g) v v (Copies 0) h (omega arith)) in
    is ∙ (ap₂ (λ t k. nat_le (length (copy_name t (count_of k))) 4095) whose read ∙ ap (λ t. nat_le (length t) 4095) (same_name_by (fates_of g) v (fate (fates_of g) v) (label_of g v) refl))

-- a larger number has no fewer digits
pub digits-le : (j : ℕ) → j < 2 ^ 64 → (k : ℕ) → j ≤ k → k < 2 ^ 64 → length (decimal j) ≤ length (decimal k)
digits-le =
    decimal_by_steps (λ j ds. (k : ℕ) → j ≤ k → k < 2 ^ 64 → length ds ≤ length (decimal k))
    (λ j low k h small. omega (arith, decimal_nonempty k small))
    (λ j ds high more k h small.
    let tenth : j / 10 ≤ k / 10 = omega (arith, h) in
    let step : length (decimal k) ≡ length (decimal (k / 10)) + 1 = ap length (decimal_step k (omega (arith, high, h)) small) ∙ length-append (decimal (k / 10)) ((48 + k % 10) ∷ []) in
    omega (arith, step, more (k / 10) tenth (omega (arith, small)), length-append ds ((48 + j % 10) ∷ [])))

-- so no copy has a longer name than the last
pub shorter : (label : List ℕ) (j k : ℕ) → j ≤ k → k < 2 ^ 64 → length label ≤ length (copy_name label k) → length (copy_name label j) ≤ length (copy_name label k)
shorter label j k h small long =
    elim (cases_lt 1 j) [
      | inr first ↦ omega (arith, ap length (first_name label j first), long)
      | inl other ↦ (let named_j : length (copy_name label j) ≡ length (label ++ codes ":") + length (decimal j) = ap length (other_name label j other) ∙ length-append (label ++ codes ":") (decimal j) in
          let named_k : length (copy_name label k) ≡ length (label ++ codes ":") + length (decimal k) = ap length (other_name label k (omega (arith, other, h))) ∙ length-append (label ++ codes ":") (decimal k) in
          omega (arith, named_j, named_k, digits-le j (omega (arith, h, small)) k h small))
    ]

longer_by : (label : List ℕ) (k : ℕ) → length label ≤ length (copy_name label k)
longer_by label k =
    elim (cases_lt 1 k) [
      | inr first ↦ omega (arith, ap length (first_name label k first))
      | inl other ↦ (let named_k : length (copy_name label k) ≡ length (label ++ codes ":") + length (decimal k) = ap length (other_name label k other) ∙ length-append (label ++ codes ":") (decimal k) in
          omega (arith, named_k, length-append label (codes ":")))
    ]

pub name_is_text : (label : List ℕ) (j k : ℕ) → IsText label → j ≤ k → k < 2 ^ 32 → length (copy_name label k) ≤ 4095 → IsText (copy_name label j)
name_is_text label j k text h small fits =
    let short : length (copy_name label j) ≤ 4095 = omega (arith, fits, shorter label j k h (omega (arith, small)) (longer_by label k)) in
    elim (cases_lt 1 j) [
      | inr first ↦ subst IsText (sym (first_name label j first)) text
      | inl other ↦ (let whole : IsShort ((length label + 1) + 10) (copy_name label j) = subst (IsShort ((length label + 1) + 10)) (sym (other_name label j other)) (IsShort-append (IsShort-append (IsShort-from_text text) (IsShort-byte 58 refl)) (IsShort-decimal j (omega (arith, h, small)))) in
          text_from_short short (IsShort-exact whole))
    ]

-- ---- the copies of one vertex, as a loop makes them
shift : {X : Type 0} (f : ℕ → X) (a n : ℕ) → map f (range_with_len (a + 1) n) ≡ map (λ j. f (j + 1)) (range_with_len a n)
shift f a zero = refl
shift f a (suc n) = ap (λ xs. f (a + 1) ∷ xs) (shift f (a + 1) n)

pub copies_start : (a : Builder) (label : List ℕ) (n : ℕ) → NamesFrom a (map (copy label) (range_with_len 1 n)) a (λ j. copy label (j + 1)) 0 n
copies_start a label n =
    subst (λ all. NamesFrom a all a (λ j. copy label (j + 1)) 0 n) (sym (shift (copy label) 0 n)) (names_from_start a (λ j. copy label (j + 1)) n)

-- ---- those of all vertices
pub record NamesRuns (a : Builder) (all : List Named) (b : Builder) (f : ℕ → List Named) (i n : ℕ) : Type 0 where
  pub left : NamesLeft a all b (flat_map f (range_with_len i (n - i)))

runs-cons : (f : ℕ → List Named) (i n : ℕ) → i < n → flat_map f (range_with_len i (n - i)) ≡ f i ++ flat_map f (range_with_len (i + 1) (n - (i + 1)))
runs-cons f i n h =
    let more : n - i ≡ suc (n - (i + 1)) = omega arith in
    ap (λ k. flat_map f (range_with_len i k)) more

pub runs_start : (a : Builder) (f : ℕ → List Named) (n : ℕ) → NamesRuns a (flat_map f (range_with_len 0 n)) a f 0 n
runs_start a f n =
    let all : n - 0 ≡ n = omega arith in
    record { left = record { same = ap (λ k. with_named a (flat_map f (range_with_len 0 k))) all } }

pub runs_some : {a b c : Builder} {all : List Named} {f : ℕ → List Named} {i n : ℕ} → i < n → NamesRuns a all b f i n → c ≡ with_named b (f i) → NamesRuns a all c f (i + 1) n
runs_some {f = f} {i = i} {n = n} h left made =
    record { left = names_some (f i) (flat_map f (range_with_len (i + 1) (n - (i + 1)))) (names_as left.left (runs-cons f i n h)) made }

pub runs_none : {a b : Builder} {all : List Named} {f : ℕ → List Named} {i n : ℕ} → i < n → NamesRuns a all b f i n → f i ≡ [] → NamesRuns a all b f (i + 1) n
runs_none {f = f} {i = i} {n = n} h left none =
    record { left = names_as left.left (runs-cons f i n h ∙ ap (λ vs. vs ++ flat_map f (range_with_len (i + 1) (n - (i + 1)))) none) }

pub runs_refused : {a b : Builder} {all : List Named} {f : ℕ → List Named} {i n : ℕ} {e : Refusal} → i < n → NamesRuns a all b f i n → RefusesNames b (f i) e → RefusesNames a all e
runs_refused {f = f} {i = i} {n = n} h left refused =
    names_refused (f i) (flat_map f (range_with_len (i + 1) (n - (i + 1)))) (names_as left.left (runs-cons f i n h)) refused

pub runs_end : {a b : Builder} {all : List Named} {f : ℕ → List Named} {i n : ℕ} → n ≤ i → NamesRuns a all b f i n → b ≡ with_named a all
runs_end {f = f} {i = i} {n = n} h left =
    let none : n - i ≡ 0 = omega arith in
    names_end (names_as left.left (ap (λ k. flat_map f (range_with_len i k)) none))

-- ---- how many they are
length-named_by : (g : GraphOf) (fs : List Fate) (n : ℕ) → length (flat_map (named_at g fs) (range_with_len 0 n)) ≡ start fs n
length-named_by g fs zero = refl
length-named_by g fs (suc n) =
    let next : suc n ≡ n + 1 = omega arith in
    let here : length (named_at g fs n) ≡ made_at fs n = length-map (range_with_len 1 (made_at fs n)) (copy (label_of g n)) ∙ length-range_with_len 1 (made_at fs n) in
    let left : length (flat_map (named_at g fs) (range_with_len 0 (suc n))) ≡ length (flat_map (named_at g fs) (range_with_len 0 n)) + length (named_at g fs n) =
    ap (λ k. length (flat_map (named_at g fs) (range_with_len 0 k))) next ∙ (ap length (flat_map_range_more (named_at g fs) n) ∙ length-append (flat_map (named_at g fs) (range_with_len 0 n)) (named_at g fs n)) in
    let right : start fs (suc n) ≡ start fs n + made_at fs n = ap (start fs) next ∙ sum_range_more (made_at fs) n in
    omega (arith, left, right, here, length-named_by g fs n)

pub length-named : (g : GraphOf) (fs : List Fate) → length (named g fs) ≡ start fs (n_of g)
length-named g fs = length-named_by g fs (n_of g)
